use Rattle.std.proofs.Common.{arith, refl, sym, ap, length-take, slice_index_or}
use Rattle.list.specs.Find.{written}
use Rattle.queues.specs.Made.{front}
use Rattle.queues.proofs.Fronts.{no_bundle, in_all, front_is, front_size}
use Rattle.queues.proofs.bundles.Bundles.write_front.Goals as goal

pub returns-then-self-eq0 : goal.returns-then-self-eq0
returns-then-self-eq0 c = sym (ap (λ bs. written (front bs) c.args.lent.now) (no_bundle c.args.self.now c.if-self-eq0.true))

pub slice_bounds-copy_from_slice-end : goal.slice_bounds-copy_from_slice-end
slice_bounds-copy_from_slice-end c = omega (arith, front_size c.args.self.now c.requires.bundles c.if-self-eq0.false, c.requires.room)

pub slice_bounds-copy_from_slice-end-2 : goal.slice_bounds-copy_from_slice-end-2
slice_bounds-copy_from_slice-end-2 c =
    omega (arith, front_size c.args.self.now c.requires.bundles c.if-self-eq0.false, c.requires.room, length-take (slice_index_or c.args.self.now.lengths 0 0) c.args.lent.now)

pub shared_ref_as_front-copy_from_slice : goal.shared_ref_as_front-copy_from_slice
shared_ref_as_front-copy_from_slice c = in_all c.args.self.now c.requires.bundles c.if-self-eq0.false

pub copy_from_slice-requires : goal.copy_from_slice-requires
copy_from_slice-requires c =
    let n = slice_index_or c.args.self.now.lengths 0 0 in
    omega (
      arith,
      front_size c.args.self.now c.requires.bundles c.if-self-eq0.false,
      in_all c.args.self.now c.requires.bundles c.if-self-eq0.false,
      c.requires.room,
      length-take n c.args.lent.now,
      length-take n c.args.self.now.handles,
      c.requires.bundles.handles.size,
    )

pub returns : goal.returns
returns c =
    let f = front_is c.args.self.now c.requires.bundles c.if-self-eq0.false in
    let size = front_size c.args.self.now c.requires.bundles c.if-self-eq0.false in
    rw (size, f, c.copy_from_slice.ensures.after) refl
