use Rattle.std.proofs.Common.{sym, ◌∙◌}
use Rattle.tab.proofs.TestForms.{answer_is, test_well, well_test_true}
use Rattle.tab.proofs.Table.is_well_formed.Goals as goal

pub returns : goal.returns
returns c =
    let e = answer_is _ _ c.parts_good.ensures in
    record { test = e; means = (λ h. test_well _ (sym e ∙ h), λ w. e ∙ well_test_true _ w) }
