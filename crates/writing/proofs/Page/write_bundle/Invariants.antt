-- The first handles stand behind the count. Assumes nothing.
use Rattle.std.proofs.Common.{◌≡◌}
use Rattle.writing.proofs.Places.{Bundling}
use Rattle.writing.proofs.Page.write_bundle.Given as goal

abbrev pub invariant-loop-h : goal.invariant-loop-h
invariant-loop-h l =
    record {
      same : l.self.buf.ghost_name ≡ l.initial.self.buf.ghost_name;
      made : Bundling l.initial.self.buf.now l.handles l.initial.self.len l.self.buf.now l.self.len l.h-index;
    }
