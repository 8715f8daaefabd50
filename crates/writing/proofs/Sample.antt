-- The answers of 01's printed case, and the other forms. Assumes nothing.
use mathlib.Core.Path.{◌≡◌, refl}
use mathlib.Core.List.{[], ◌∷◌}
use Prim.Native.Nat.{ℕ}
use Rattle.packet.specs.declared.View.{View}
use Rattle.reading.specs.Text.{bytes}
use Rattle.writing.specs.Answers.{ok_line, no_line, bundle_line, none_line, handles_text, worded, index_text, digits, digits_n}

abbrev on_view : ℕ → ℕ → ℕ → ℕ → View
on_view a i v e = record { on = 1; address = a; index = i; version = v; expected = e }

pub answer_1 : ok_line (on_view 7 0 0 0) ≡ bytes "ok on 7 - exp 0\n"
unfolding ok_line no_line bundle_line handles_text worded index_text digits digits_n
answer_1 = refl

-- answers 2 and 3
pub answer_2 : ok_line (on_view 7 0 0 2) ≡ bytes "ok on 7 - exp 2\n"
unfolding ok_line no_line bundle_line handles_text worded index_text digits digits_n
answer_2 = refl

pub answer_4 : bundle_line (20 ∷ []) ≡ bytes "bundle 1 20\n"
unfolding ok_line no_line bundle_line handles_text worded index_text digits digits_n
answer_4 = refl

pub answer_5 : bundle_line (21 ∷ []) ≡ bytes "bundle 1 21\n"
unfolding ok_line no_line bundle_line handles_text worded index_text digits digits_n
answer_5 = refl

pub answer_6 : none_line ≡ bytes "none\n"
unfolding ok_line no_line bundle_line handles_text worded index_text digits digits_n
answer_6 = refl

pub answer_7 : no_line 6 ≡ bytes "no 6\n"
unfolding ok_line no_line bundle_line handles_text worded index_text digits digits_n
answer_7 = refl

pub with_index : ok_line (on_view 10 300 1 268435455) ≡ bytes "ok on 10 300 exp 268435455\n"
unfolding ok_line no_line bundle_line handles_text worded index_text digits digits_n
with_index = refl

pub off-channel : ok_line (record { on = 0; address = 4294967295; index = 0; version = 0; expected = 0 }) ≡ bytes "ok off 4294967295\n"
unfolding ok_line no_line bundle_line handles_text worded index_text digits digits_n
off-channel = refl

pub three_handles : bundle_line (0 ∷ 4294967295 ∷ 7 ∷ []) ≡ bytes "bundle 3 0 4294967295 7\n"
unfolding ok_line no_line bundle_line handles_text worded index_text digits digits_n
three_handles = refl
