-- A list that a resend leaves as it is.
use Rattle.std.proofs.Common.{◌≡◌, ℕ, ◌+◌, Bool, true, false, ◌&&◌, not, List, [], ◌∷◌, map, length, refl, sym, ap, arith, ◌∙◌}
use Rattle.std.specs.List.{list_all}
use Rattle.list.specs.Pad.{all_b}
use Rattle.list.specs.Find.{keep_by, written_at}
use Rattle.list.proofs.Pad.{and_left, and_right}
use Rattle.list.proofs.Tests.{all_b_weaken}
use Rattle.list.proofs.Find.{keep_all, keep-none}
use Rattle.list.proofs.Maps.{map-kept}
use Rattle.list.proofs.Copies.{written_none}
use borrow.Author.Tests.{not-true}
use Rattle.packet.specs.declared.OutEntry.{OutEntry}
use Rattle.model.specs.Calls.{flat}
use Rattle.model.specs.Rust.{young, due, mark, mark_if}
use Rattle.queues.specs.declared.out_list.Clock.{Clock}
use Rattle.queues.specs.Out.{calm, due_entries, due_rows, resent}

pub all_is : {X : Type 0} (f : X → Bool) (xs : List X) → list_all f xs ≡ all_b f xs
unfolding all_b
all_is f [] = refl
all_is f (x ∷ xs) = ap (λ b. f x && b) (all_is f xs)

module _ (c : Clock) (es : List OutEntry) (h : all_b (λ e. calm c.time c.timeout c.give_up e) es ≡ true) where
  not_due : (e : OutEntry) → calm c.time c.timeout c.give_up e ≡ true → due c.time c.timeout e ≡ false
  not_due e q = not-true (due c.time c.timeout e) (and_right (young c.time c.give_up e) (not (due c.time c.timeout e)) q)

  all_young : keep_by (young c.time c.give_up) es ≡ es
  all_young = keep_all (young c.time c.give_up) es (all_b_weaken (λ e. calm c.time c.timeout c.give_up e) (young c.time c.give_up) (λ e q. and_left (young c.time c.give_up e) (not (due c.time c.timeout e)) q) es h)

  pub quiet_same : es ≡ resent c es
  quiet_same =
      map-kept (λ e. calm c.time c.timeout c.give_up e) (mark c.time c.timeout) es (λ e q. ap (λ b. mark_if b c.time e) (sym (not_due e q))) h
      ∙ ap (λ l. map (mark c.time c.timeout) l) (sym all_young)

  quiet_none : due_entries c es ≡ []
  quiet_none =
      ap (λ l. keep_by (due c.time c.timeout) l) all_young
      ∙ keep-none (due c.time c.timeout) (λ e. calm c.time c.timeout c.give_up e) not_due es h

  pub quiet_next : (a at : ℕ) → at ≡ at + length (flat (due_rows a c es))
  unfolding flat
  quiet_next a at = rw quiet_none (omega arith)

  pub quiet_rows : (a at : ℕ) (l : List ℕ) → l ≡ written_at at (flat (due_rows a c es)) l
  unfolding flat
  quiet_rows a at l = rw quiet_none (written_none at l)
