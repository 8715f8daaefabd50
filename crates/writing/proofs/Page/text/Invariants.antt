-- So far the first bytes stand there. Assumes nothing.
use Rattle.std.proofs.Common.{◌≡◌, length, take}
use Rattle.writing.specs.Wrote.{Wrote}
use Rattle.writing.proofs.Page.text.Given as goal

abbrev pub invariant-loop-b : goal.invariant-loop-b
invariant-loop-b l =
    record {
      same : l.self.buf.ghost_name ≡ l.initial.self.buf.ghost_name;
      wrote : Wrote (length l.text) l.initial.self.buf.now l.self.buf.now l.initial.self.len l.self.len (take l.b-index l.text);
    }
