-- `xref::chain::take_out`: a word that is kept under no cell stands in no chain.
use mathlib.Core.Path.{ap, refl, sym, ◌∙◌, ◌≡◌}
use native.Mathlib.Omega.{arith}
use Rattle.tables.specs.Key.{key_of}
use Rattle.xref.proofs.Moves.{key_small, moved_still, nop_none}
use Rattle.xref.proofs.chain.take_out.Goals as goal

pub returns-then-cell-eq-NONE : goal.returns-then-cell-eq-NONE
returns-then-cell-eq-NONE c =
    let e : c.key-cell.result ≡ key_of _ = c.key-cell.ensures ∙ ap key_of c.word_at.ensures in
    moved_still _ _ c.args.address 0xFFFF c.requires.0 c.requires.1 (omega arith) _ _ c.pair_set.ensures (sym e ∙ c.if-cell-eq-NONE.true) nop_none refl

pub unlink-requires : goal.unlink-requires
unlink-requires c =
    let e : c.key-cell.result ≡ key_of _ = c.key-cell.ensures ∙ ap key_of c.word_at.ensures in
    (c.requires.0, omega (arith, e, key_small _ (λ z. c.if-cell-eq-NONE.false (e ∙ z))), c.requires.1, sym e)
