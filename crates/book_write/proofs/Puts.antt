-- How a book comes into a room: the contents, and the bodies behind each other, are the book.
use Rattle.std.specs.Prelude.{Ok}
use mathlib.Core.Path.{◌≡◌, ◌∙◌, refl, ap}
use mathlib.Core.List.{List, ◌++◌}
use Prim.Native.Nat.{ℕ, ◌+◌, ◌≤◌}
use native.Mathlib.Omega.{arith}
use lib.ListN.{length, length-append}
use borrow.Author.Tests.{le-ltb}
use Rattle.lent.specs.Lent.{pasted_of}
use Rattle.lent.proofs.Laws.{pasted_on}
use Rattle.lent.specs.Outcome.{outcome}
use Rattle.book_write.specs.Writing.{contents_of, book_of, bodies_put, put_of}

pub contents_length_lem : (p w v : ℕ) → length (contents_of p w v) ≡ 16
unfolding contents_of
contents_length_lem p w v = refl

pub book_length : (p w v : List ℕ) → length (book_of p w v) ≡ 16 + length p + length w + length v
unfolding book_of
book_length p w v =
    let h = contents_of (length p) (length w) (length v) in
    omega (arith, contents_length_lem (length p) (length w) (length v), length-append h p, length-append (h ++ p) w, length-append (h ++ p ++ w) v)

-- the bodies behind the contents are the book
book_put : (p w v r : List ℕ) → 16 + length p + length w + length v ≤ length r
    → bodies_put p w v (pasted_of r 0 (contents_of (length p) (length w) (length v))) ≡ pasted_of r 0 (book_of p w v)
unfolding bodies_put book_of
book_put p w v r h =
    let c = contents_of (length p) (length w) (length v) in
    let l = contents_length_lem (length p) (length w) (length v) in
    let m = length-append c p in
    let n = length-append (c ++ p) w in
    rw (pasted_on r c p 16 l (omega arith), pasted_on r (c ++ p) w (16 + length p) (omega arith) (omega arith), pasted_on r (c ++ p ++ w) v (16 + length p + length w) (omega arith) (omega arith))

pub book_filled : (p w v r head m s : List ℕ) → head ≡ contents_of (length p) (length w) (length v) → m ≡ pasted_of r 0 head → s ≡ bodies_put p w v m
    → 16 + length p + length w + length v ≤ length r → s ≡ pasted_of r 0 (book_of p w v)
book_filled p w v r head m s e f g h =
    g ∙ (ap (bodies_put p w v) (f ∙ ap (pasted_of r 0) e) ∙ book_put p w v r h)

pub put_fits : (b r : List ℕ) (n : ℕ) → n ≡ length b → (s : List ℕ) → n ≤ length r → s ≡ pasted_of r 0 b → outcome (Ok n) s ≡ put_of b r
unfolding put_of
put_fits b r n e s h f = rw (le-ltb (length r) (length b) (omega arith), e, f)
