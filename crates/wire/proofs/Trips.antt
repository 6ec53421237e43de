-- The record and its 45 bytes turn into each other without loss, and numbers of 16 bits and their bytes likewise.
use Prim.Native.Nat.{ℕ, zero, suc, ◌+◌, ◌*◌, ◌/◌, ◌%◌, ◌<◌, ◌≤◌}
use mathlib.Core.Path.{◌≡◌, refl, ap, sym, ◌∙◌}
use mathlib.Core.List.{List, [], ◌∷◌, ◌++◌, append_assoc}
use native.Mathlib.Omega.{arith}
use lib.ListN.{length, get_or, take, drop, drop_of_length-le}
use lib.Seq.{drop-cons, take-suc, get_or-append_seam, get_or-append-add, get_or_at}
use Rattle.sh_state.specs.declared.machine.Machine.{Machine}
use Rattle.lent.specs.Lent.{at, pair_at_of}
use Rattle.wire.specs.Words.{two, pairs_of, words_of}
use Rattle.wire.specs.Record.{bytes_of, record_of, channel_at, channels_at, frozen_at}
use Rattle.wire.proofs.Laws.{length_words, length_pairs, pairs_front}

-- n entries from i on
abbrev spread : ℕ → ℕ → List ℕ → List ℕ
spread zero i l = []
spread (suc n) i l = get_or l i 0 ∷ spread n (suc i) l

spread_is : (n i : ℕ) (l : List ℕ) → i + n ≡ length l → spread n i l ≡ drop i l
spread_is zero i l h = sym (drop_of_length-le l {i = i} (omega arith))
spread_is (suc n) i l h =
    ap (λ (t : List ℕ). get_or l i 0 ∷ t) (spread_is n (suc i) l (omega arith)) ∙ sym (drop-cons l i 0 (omega arith))

-- a list of n is its n entries: at a numeral n the left side computes to them
spread_all : (n : ℕ) (l : List ℕ) → length l ≡ n → spread n 0 l ≡ l
spread_all n l h = spread_is n 0 l (omega arith)

-- each word of the record fits two bytes, and the stack has eight entries
pub record Sized (m : Machine) : Type 0 where
  pub pc : m.pc < 65536
  pub prescaler : m.prescaler < 65536
  pub watchdog : m.watchdog < 65536
  pub address : m.address < 65536
  pub first : m.channels.first.count < 65536
  pub second : m.channels.second.count < 65536
  pub eight : length m.stack ≡ 8
  pub entries : (k : ℕ) → get_or m.stack k 0 < 65536

joined : {v : ℕ} → v < 65536 → 256 * (v / 256 % 256) + v % 256 ≡ v
joined h = omega arith

high : {a b : ℕ} → a < 256 → b < 256 → (256 * a + b) / 256 % 256 ≡ a
high ha hb = omega arith

low : (a : ℕ) {b : ℕ} → b < 256 → (256 * a + b) % 256 ≡ b
low a hb = omega arith

pub there_and_back : (m : Machine) → Sized m → record_of (bytes_of m) ≡ m
unfolding bytes_of record_of channels_at channel_at frozen_at pair_at_of pairs_of
there_and_back m ok =
    simp (joined ok.pc, joined ok.prescaler, joined ok.watchdog, joined ok.address, joined ok.first, joined ok.second, joined (ok.entries 0), joined (ok.entries 1), joined (ok.entries 2), joined (ok.entries 3), joined (ok.entries 4), joined (ok.entries 5), joined (ok.entries 6), joined (ok.entries 7), spread_all 8 m.stack ok.eight)

pub back_and_there : (l : List ℕ) → length l ≡ 45 → ((k : ℕ) → get_or l k 0 < 256) → bytes_of (record_of l) ≡ l
unfolding bytes_of record_of channels_at channel_at frozen_at pair_at_of pairs_of
back_and_there l n b =
    simp (high (b 0) (b 1), low (get_or l 0 0) (b 1), high (b 5) (b 6), low (get_or l 5 0) (b 6), high (b 7) (b 8), low (get_or l 7 0) (b 8), high (b 9) (b 10), low (get_or l 9 0) (b 10), high (b 11) (b 12), low (get_or l 11 0) (b 12), high (b 13) (b 14), low (get_or l 13 0) (b 14), high (b 15) (b 16), low (get_or l 15 0) (b 16), high (b 17) (b 18), low (get_or l 17 0) (b 18), high (b 19) (b 20), low (get_or l 19 0) (b 20), high (b 21) (b 22), low (get_or l 21 0) (b 22), high (b 27) (b 28), low (get_or l 27 0) (b 28), high (b 35) (b 36), low (get_or l 35 0) (b 36), high (b 37) (b 38), low (get_or l 37 0) (b 38), high (b 40) (b 41), low (get_or l 40 0) (b 41)) (spread_all 45 l n)

-- a number behind other bytes
pair_behind : (a r : List ℕ) (v : ℕ) → v < 65536 → pair_at_of (a ++ two v r) (length a) ≡ v
unfolding pair_at_of
pair_behind a r v h =
    rw (get_or-append_seam a (v / 256 % 256) (v % 256 ∷ r) 0, get_or-append-add a (two v r) 1 0) (joined h)

-- the first n numbers, read back from their bytes, whatever follows these
pub words_back : (w r : List ℕ) (n : ℕ) → n ≤ length w → ((k : ℕ) → at w k < 65536) → words_of (pairs_of w n ++ r) n ≡ take n w
unfolding words_of pairs_of
words_back w r zero h b = refl
words_back w r (suc n) h b =
    let e : pairs_of w (suc n) ++ r ≡ pairs_of w n ++ two (at w n) r = append_assoc (pairs_of w n) (two (at w n) []) r in
    let v = rw (length_pairs w n) at (pair_behind (pairs_of w n) r (at w n) (b n)) in
    ap (λ (l : List ℕ). words_of l (suc n)) e ∙ rw (words_back w (two (at w n) r) n (omega arith) b, v) (sym (take-suc w n 0 (omega arith)))

-- and bytes, read as numbers, are their bytes again
pub bytes_back : (b : List ℕ) (n : ℕ) → n * 2 ≤ length b → ((k : ℕ) → at b k < 256) → pairs_of (words_of b n) n ≡ take (n * 2) b
unfolding pairs_of words_of pair_at_of
bytes_back b zero h f = refl
bytes_back b (suc n) h f =
    let w = words_of b n in
    let x = at b (n * 2) in
    let y = at b (n * 2 + 1) in
    let v = 256 * x + y in
    let z : suc n * 2 ≡ suc (suc (n * 2)) = omega arith in
    let o : n * 2 + 1 ≡ suc (n * 2) = omega arith in
    let s : take (suc (suc (n * 2))) b ≡ take (n * 2) b ++ (x ∷ y ∷ []) =
    take-suc b (suc (n * 2)) 0 (omega arith)
    ∙ (ap (λ (l : List ℕ). l ++ (at b (suc (n * 2)) ∷ [])) (take-suc b (n * 2) 0 (omega arith))
    ∙ (append_assoc (take (n * 2) b) (x ∷ []) (at b (suc (n * 2)) ∷ []) ∙ rw o)) in
    let i : at (w ++ (v ∷ [])) n ≡ v = get_or_at w v [] 0 n (length_words b n) in
    rw (z, s, i, high (f (n * 2)) (f (n * 2 + 1)), low x (f (n * 2 + 1)))
    (ap (λ (l : List ℕ). l ++ (x ∷ y ∷ []))
    (pairs_front w (v ∷ []) n (omega (arith, length_words b n)) ∙ bytes_back b n (omega arith) f))
