use Rattle.std.proofs.Common.{◌∙◌, eq-eqb, ne_eqb}
use Rattle.tab.proofs.SendPlace.{on_in, on_viewed, off_in, off_viewed}
use Rattle.tab.proofs.Table.view_at.Goals as goal

pub returns-then-key-eq1 : goal.returns-then-key-eq1
returns-then-key-eq1 c =
    let o = eq-eqb c.args.key.now.on 1 c.if-key-eq1.true in
    c.view.ensures ∙ on_viewed _ c.requires.table _ _ c.requires.place o (on_in _ c.requires.table _ _ c.requires.place o c.requires.there) _

pub returns-else-key-eq1 : goal.returns-else-key-eq1
returns-else-key-eq1 c =
    let o = ne_eqb c.args.key.now.on 1 c.if-key-eq1.false in
    c.view-else-key-eq1.ensures ∙ off_viewed _ c.requires.table _ _ c.requires.place o (off_in _ c.requires.table _ _ c.requires.place o c.requires.there) _
