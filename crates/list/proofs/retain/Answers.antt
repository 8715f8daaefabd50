use Rattle.std.proofs.lemmas.Bool.{cases_lt}
use Rattle.std.proofs.Common.{true, false, take, ◌≡◌, ap, inl, inr, arith, refl, ◌∙◌, sym}
use Rattle.std.proofs.lemmas.Fn.{says_at}
use Rattle.list.specs.Find.{keep_by}
use Rattle.list.proofs.Edits.{edited, blank_at}
use Rattle.list.proofs.Swaps.{kept_yes, kept_no, take_same, set_past}
use Rattle.list.proofs.retain.Goals as goal
use Rattle.list.proofs.retain.Goals.{then-keep, else-keep}

pub loop-i-init : goal.loop-i-init
unfolding keep_by
loop-i-init g c = record { behind = omega arith; size = refl; rest = λ j d h. refl; items = λ test f. refl }

pub loop-i-preserved : goal.loop-i-preserved
loop-i-preserved g c =
    let size = c.requires.list.size in
    let fits = c.requires.list.fits in
    let item = c.index-places-i.is ∙ c.loop-i.invariant.rest c.loop-i.i c.index-places-i.result (omega arith) in
    elim c.if-keep.branch [
      | then-keep w ↦ record {
        behind = omega arith;
        size = c.if-keep.auto.places ∙ c.loop-i.invariant.size;
        rest = λ j d h. let kept = c.loop-i.invariant.rest j d (omega arith) in rw w.places-is (set_past c.loop-i.places c.loop-i.kept j c.index-places-i.result d (omega arith) ∙ kept);
        items = λ test f.
            rw (w.kept-is, w.places-is)
            (kept_yes test c.loop-i.places c.args.places.now c.loop-i.kept c.loop-i.i c.index-places-i.result (omega arith) c.loop-i.invariant.size c.loop-i.invariant.behind (c.loop-i.invariant.items test f) item (sym (f _ true (says_at g.F.Fn c.keep.ensures w.if-keep.true))));
      }
      | else-keep w ↦ record {
        behind = omega arith;
        size = c.if-keep.auto.places ∙ c.loop-i.invariant.size;
        rest = λ j d h. let kept = c.loop-i.invariant.rest j d (omega arith) in rw w.places-is kept;
        items = λ test f.
            rw (w.kept-is, w.places-is)
            (kept_no test c.loop-i.places c.args.places.now c.loop-i.kept c.loop-i.i c.index-places-i.result (omega arith) (c.loop-i.invariant.items test f) item (sym (f _ false (says_at g.F.Fn c.keep.ensures w.if-keep.false))));
      }
    ]

pub returns-clause-list : goal.returns-clause-list
returns-clause-list g c =
    let size = c.requires.list.size in
    edited _ _ c.loop-i.kept _ c.args.places.now _ c.requires.list (c.blank_out.ensures.len ∙ c.loop-i.invariant.size) (omega arith)
    (λ k d le here. elim (cases_lt k c.args.len.now) [
      | inl lt ↦ c.blank_out.ensures.blank k d le lt
      | inr past ↦ c.blank_out.ensures.others k d (inr past) ∙ (c.loop-i.invariant.rest k d (omega arith) ∙ blank_at _ _ _ _ c.requires.list k d past here)
    ])

pub returns-clause-items : goal.returns-clause-items
returns-clause-items g c =
    let last : c.loop-i.i ≡ c.args.len.now = omega arith in
    λ test f.
    take_same c.blank_out.new.places c.loop-i.places c.loop-i.kept c.blank_out.ensures.len (λ k d lt. c.blank_out.ensures.others k d (inl lt))
    ∙ (c.loop-i.invariant.items test f ∙ ap (λ k. keep_by test (take k c.args.places.now)) last)
