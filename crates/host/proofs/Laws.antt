-- What a match on an answer leaves: what is told of it, where the answer is known.
use Rattle.std.specs.Prelude.{Err, Ok, Result}
use mathlib.Core.Path.{◌≡◌, ◌∙◌, ap, refl, sym}
use mathlib.Core.List.{List}
use Prim.Native.Nat.{ℕ}
use lib.IntN.{ℤ}
use mathlib.Core.Bool.{true, false}
use lib.Dec.{eqb}
use Rattle.refusal.specs.declared.Refusal.{Refusal}
use Rattle.refusal.specs.Refusal.{number_of}
use Rattle.refusal.specs.Told.{Said, Counted, counted, done_told, refused_told}
use Rattle.sh_state.specs.declared.machine.Machine.{Machine}
use Rattle.sh_state.specs.State.{state}
use lib.ListN.{length}
use Rattle.lent.specs.Lent.{pasted_of}
use Rattle.answer.specs.Answer.{Answered, outcome_told}
use Rattle.call_step.specs.Step.{step_of}
use Rattle.call_step.proofs.Words.{step_same}
use Rattle.call_run.specs.Run.{RunAnswered, run_call_of, Stopped, stopped, refused_by, reason_told}
use Rattle.lent.specs.Outcome.{Outcome}
use Rattle.book.specs.Book.{read_of, Found, found, reading_told}
use Rattle.book_write.specs.Writing.{write_of, written_told}
use Rattle.picture.specs.Picture.{picture_of, drawn_told}
use Rattle.wire.specs.Record.{record_of, bytes_of}
use Rattle.wire.specs.Words.{words_of, words_at_of}
use Rattle.wire.proofs.Laws.{record_whole, words_at_length, words_at_first, words_at_second}
use Rattle.sh_rules.specs.Judge.{first_of, judged_told, memory_judged}
use Rattle.level.specs.Level.{levels, levelled_told}
use Rattle.book.specs.declared.Parts.{Parts}
use Rattle.host.specs.Told.{filled, room_told, count_told, short_told}
use Rattle.host.specs.Step.{stepped, step_told}
use Rattle.host.specs.Run.{ran, run_told}
use Rattle.host.specs.Books.{host_read_of, host_write_of}
use Rattle.call_run.specs.declared.Reached.{Reached}

pub judged_is : (j : Result (Unit {0}) Refusal) → outcome_told j ≡ judged_told j
unfolding outcome_told judged_told
judged_is (Ok tt) = refl
judged_is (Err why) = refl

pub short_said : {k j : Result (Unit {0}) Refusal} {s : Said} (l : List ℕ) → k ≡ memory_judged l → j ≡ first_of k (Err Refusal.Record) → s ≡ outcome_told j → s ≡ short_told l
unfolding short_told
short_said l p q r = rw (← p, ← q) (r ∙ judged_is _)

pub outcome_at : {i j : (Result (Unit {0}) Refusal)} {r : Said} → i ≡ j → r ≡ outcome_told j → r ≡ outcome_told i
outcome_at p q = q ∙ sym (ap outcome_told p)

pub stopped_at : {i j : Result Reached Refusal} {r : Stopped} (n reason events : ℕ) → i ≡ j → r ≡ reason_told j n reason events → r ≡ reason_told i n reason events
stopped_at n reason events p q = q ∙ sym (ap (λ k. reason_told k n reason events) p)

pub reached_at : {i j : Reached} {r : Stopped} (n reason events : ℕ) → i ≡ j → r ≡ reason_told (Ok j) n reason events → r ≡ reason_told (Ok i) n reason events
reached_at n reason events p q = q ∙ sym (ap (λ k. reason_told (Ok k) n reason events) p)

pub level_found : {i : Result ℤ Refusal} {v k : ℤ} {s : Said} (old : ℤ) → i ≡ Ok v → k ≡ v → s ≡ done_told → levels s k ≡ levelled_told i old
unfolding levelled_told
level_found old e f g = rw (e, f, g)

pub level_refused : {i : Result ℤ Refusal} {why : Refusal} {s : Said} (old : ℤ) → i ≡ Err why → s ≡ refused_told why → levels s old ≡ levelled_told i old
unfolding levelled_told
level_refused old e g = rw (e, g)

pub count_at : {i j : Result ℕ Refusal} {r : Counted} (count : ℕ) → i ≡ j → r ≡ count_told j count → r ≡ count_told i count
count_at count p q = q ∙ sym (ap (λ k. count_told k count) p)

pub drawn_counts : (a : Result ℕ Refusal) (count : ℕ) → count_told a count ≡ drawn_told a count
unfolding count_told drawn_told
drawn_counts (Ok n) count = refl
drawn_counts (Err why) count = refl

pub book_counts : (a : Result ℕ Refusal) (count : ℕ) → count_told a count ≡ written_told a count
unfolding count_told written_told
book_counts (Ok n) count = refl
book_counts (Err why) count = refl

pub read_found : {i : Result Parts Refusal} {p q : Parts} {s : Said} (old : Parts) → i ≡ Ok p → q ≡ p → s ≡ done_told → found s q ≡ reading_told i old
unfolding reading_told
read_found old e f g = rw (e, f, g)

pub read_refused : {i : Result Parts Refusal} {why : Refusal} {s : Said} (old : Parts) → i ≡ Err why → s ≡ refused_told why → found s old ≡ reading_told i old
unfolding reading_told
read_refused old e g = rw (e, g)

-- what is said, beside what else a call leaves
pub counted_said : {s t : Said} (n : ℕ) → s ≡ t → counted s n ≡ counted t n
counted_said n p = ap (λ k. counted k n) p

pub filled_said : {s t : Said} (n : ℕ) (o : List ℕ) → s ≡ t → filled (counted s n) o ≡ filled (counted t n) o
filled_said n o p = ap (λ k. filled (counted k n) o) p

pub stepped_said : {s t : Said} (l b : List ℕ) → s ≡ t → stepped s l b ≡ stepped t l b
stepped_said l b p = ap (λ k. stepped k l b) p

pub ran_said : {s t : Said} (reason events : ℕ) (l b : List ℕ) → s ≡ t → ran (stopped s reason events) l b ≡ ran (stopped t reason events) l b
ran_said reason events l b p = ap (λ k. ran (stopped k reason events) l b) p

-- 6 alone has a reason and a count to tell
pub stopped_by_word : (why : Refusal) {k : ℕ} {s : Said} (n reason events : ℕ) → k ≡ number_of why → eqb k 6 ≡ true → s ≡ refused_told why → stopped s 1 n ≡ refused_by why n reason events
unfolding refused_by
stopped_by_word why n reason events p t g = rw (← p, t, g)

pub stopped_by_other : (why : Refusal) {k : ℕ} {s : Said} (n reason events : ℕ) → k ≡ number_of why → eqb k 6 ≡ false → s ≡ refused_told why → stopped s reason events ≡ refused_by why n reason events
unfolding refused_by
stopped_by_other why n reason events p t g = rw (← p, t, g)

-- a call for C from its parts: the words and the record read, the call's answer, the record written back, what is told
pub answer_told : (b : List ℕ) (x a : Answered) (k : List ℕ) (t : Said) →
    a ≡ x → length b ≡ 45 → k ≡ pasted_of b 0 (bytes_of a.after.machine) → t ≡ outcome_told a.outcome → stepped t a.after.memory k ≡ step_told x
unfolding step_told
answer_told b x a k t e n s g = rw (← e, s, record_whole a.after.machine b n, g)

-- the two words that an event can read are as good as the program
two_words : (body l : List ℕ) (event : ℕ) (m : Machine) → step_of (words_at_of body m.pc m.address) (state m l) event ≡ step_of (words_of body 4096) (state m l) event
two_words body l event m =
    step_same (words_at_of body m.pc m.address) (words_of body 4096) (state m l) (words_at_second body m.pc m.address) (words_at_first body m.pc m.address) event (words_at_length body m.pc m.address)

pub step_told_lem : (body l b : List ℕ) (event : ℕ) (w : List ℕ) (m : Machine) (a : Answered) (k : List ℕ) (t : Said) →
    m ≡ record_of b → w ≡ words_at_of body m.pc m.address → a ≡ step_of w (state m l) event → length b ≡ 45 → k ≡ pasted_of b 0 (bytes_of a.after.machine) → t ≡ outcome_told a.outcome →
    stepped t a.after.memory k ≡ step_told (step_of (words_of body 4096) (state (record_of b) l) event)
step_told_lem body l b event w m a k t q p r n s g =
    answer_told b _ a k t
    (r
    ∙ (ap (λ (v : List ℕ). step_of v (state m l) event) p
    ∙ (two_words body l event m ∙ ap (λ (u : Machine). step_of (words_of body 4096) (state u l) event) q))) n s g

pub run_told_lem : (body l b script : List ℕ) (stop reason events : ℕ) (w : List ℕ) (m : Machine) (a : RunAnswered) (k : List ℕ) (n : Stopped) →
    w ≡ words_of body 4096 → m ≡ record_of b → a ≡ run_call_of w (state m l) script stop → length b ≡ 45 → k ≡ pasted_of b 0 (bytes_of a.after.machine) → n ≡ reason_told a.reason a.events reason events →
    ran n a.after.memory k ≡ run_told (run_call_of (words_of body 4096) (state (record_of b) l) script stop) reason events
unfolding run_told
run_told_lem body l b script stop reason events w m a k n p q r h s t = rw (← p, ← q, ← r, s, record_whole a.after.machine b h, t)

pub picture_told : (l b wiring room : List ℕ) (count : ℕ) (m : Machine) (a : Outcome (Result ℕ Refusal)) (k : Counted) →
    m ≡ record_of b → a ≡ picture_of (state m l) wiring room → k ≡ drawn_told a.answer count →
    filled k a.room ≡ room_told drawn_told (picture_of (state (record_of b) l) wiring room) count
unfolding room_told
picture_told l b wiring room count m a k p q r = rw (← p, ← q, r)

pub book_told : (program wiring level room : List ℕ) (count : ℕ) (a : Outcome (Result ℕ Refusal)) (k : Counted) →
    a ≡ write_of program wiring level room → k ≡ written_told a.answer count → filled k a.room ≡ host_write_of program wiring level room count
unfolding host_write_of room_told
book_told program wiring level room count a k p q = rw (← p, q)

pub book_read_told : (file : List ℕ) (old : Parts) {a : Result Parts Refusal} {f : Found} → a ≡ read_of file → f ≡ reading_told a old → f ≡ host_read_of file old
unfolding host_read_of
book_read_told file old p q = rw (← p) q
