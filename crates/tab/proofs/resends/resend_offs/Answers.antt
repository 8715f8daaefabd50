use Rattle.std.proofs.Common.{arith, refl}
use Rattle.std.proofs.lemmas.List.{length-map}
use Rattle.std.proofs.lemmas.List.Elements.{All-set}
use Rattle.chan.specs.Channels.{off_of, IsOffChannel}
use Rattle.tab.specs.Resending.{rows_of_off, off_after}
use Rattle.tab.proofs.Listed.{struct_seen, struct_set, listed_start, listed_room, listed_step}
use Rattle.tab.proofs.resends.resend_offs.Goals as goal

pub loop-i-init : goal.loop-i-init
loop-i-init c =
    record {
      channels = c.requires.channels;
      items = refl;
      listed = listed_start (rows_of_off c.args.clock) _ _ _;
    }

pub loop-i-preserved : goal.loop-i-preserved
loop-i-preserved c =
    record {
      channels = All-set IsOffChannel _ _ _ c.resend-next.ensures.channel c.loop-i.invariant.channels;
      items = struct_set off_of (off_after c.args.clock) c.args.offs.now _ _ c.loop-i.invariant.items _ _ (omega (arith, length-map c.args.offs.now off_of)) c.resend-next.ensures.items;
      listed =
          listed_step (rows_of_off c.args.clock) _ _ _ _ _ _ c.requires.room c.loop-i.invariant.listed _ _ (omega (arith, length-map c.args.offs.now off_of))
          (struct_seen off_of (off_after c.args.clock) c.args.offs.now _ _ c.loop-i.invariant.items _)
          _ _ c.resend-next.ensures.rows c.resend-next.ensures.next;
    }

pub resend-next-requires-clause-room : goal.resend-next-requires-clause-room
resend-next-requires-clause-room c =
    listed_room (rows_of_off c.args.clock) _ _ _ _ _ _ c.requires.room c.loop-i.invariant.listed _ _ (omega (arith, length-map c.args.offs.now off_of))
    (struct_seen off_of (off_after c.args.clock) c.args.offs.now _ _ c.loop-i.invariant.items _)
