-- `xref::chain::put_in`: a word that is kept under no cell joins no chain.
use native.Mathlib.Omega.{arith}
use Rattle.xref.proofs.Moves.{key_small, moved_still}
use mathlib.Core.Path.{refl, sym, ◌∙◌}
use Rattle.xref.proofs.chain.put_in.Goals as goal

pub returns-then-cell-eq-NONE : goal.returns-then-cell-eq-NONE
returns-then-cell-eq-NONE c =
    let e = sym c.key-cell.ensures ∙ c.if-cell-eq-NONE.true in
    moved_still _ _ c.args.address c.args.word c.requires.0 c.requires.1 (omega arith) _ _ c.pair_set.ensures c.requires.2 e refl

pub link-requires : goal.link-requires
link-requires c =
    let h = key_small c.args.word (λ e. c.if-cell-eq-NONE.false (c.key-cell.ensures ∙ e)) in
    (c.requires.0, omega (arith, c.key-cell.ensures), c.requires.1, c.requires.2, sym c.key-cell.ensures)
