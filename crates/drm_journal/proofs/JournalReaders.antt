-- Journals are read as they are spelled, and as nothing else.
use Rattle.std.proofs.Common.{◌≡◌, ℕ, suc, ◌+◌, ◌-◌, ◌^◌, ◌<◌, ◌≤◌, ◌==◌, Bool, true, false, not, cond, List, [], ◌∷◌, ◌++◌, append_assoc, length, map, take, Some, None, Option, Result, Ok, Err, refl, sym, ap, subst, ◌∙◌, arith, inl, inr, eq-eqb}
use Rattle.std.specs.Prelude.{codes, nat_lt, IfOk, IsTrue, ◌&&◌, slice_get, option_map}
use Rattle.std.specs.Str.{bytes_eq}
use Rattle.std.specs.List.{AllByRecursion, join_with_byte, list_all}
use Rattle.std.specs.Fmt.{decimal}
use Rattle.std.proofs.Math.Seq.{take-length}
use Rattle.std.proofs.lemmas.Bool.{and_parts, eqb-true, ltb-false, le-ltb}
use Rattle.std.proofs.lemmas.List.{append-nil, length-append, length-map}
use Rattle.drm_types.specs.Firsts.{is_nil}
use Rattle.drm_types.specs.Limits.{spec_fault}
use Rattle.drm_types.specs.declared.outcome.Outcome.{Outcome}
use Rattle.drm_types.specs.declared.outcome.Outcome.TheVariants as outcome
use Rattle.drm_types.specs.declared.spec.DeviceSpec.{DeviceSpec}
use Rattle.drm_job.specs.declared.Draft.{Draft}
use Rattle.drm_text.specs.Cut.{Words, Left}
use Rattle.drm_text.specs.Grammar.{AreBytes, text_of_lines}
use Rattle.drm_text.specs.Hexadecimal.{bytes_at, text_of_bytes}
use Rattle.drm_text.specs.declared.fault.Fault.{Fault}
use Rattle.drm_text.specs.declared.fault.Fault.TheVariants.{Text}
use Rattle.drm_text.specs.declared.fault.ReadError.{ReadError}
use Rattle.drm_text.specs.declared.fault.TextFault.TheVariants as what
use Rattle.drm_text.specs.declared.keywords.Command.TheVariants as command
use Rattle.drm_text.specs.declared.keywords.Keyword.{Keyword}
use Rattle.drm_text.specs.declared.keywords.Keyword.TheVariants as line
use Rattle.drm_text.specs.Keywords.{keyword_text}
use Rattle.drm_text.specs.Lines.{start_at, last_line, out_of_order, lines_of}
use Rattle.drm_text.specs.Reading.{◌>>=◌, or_fault, Gives}
use Rattle.drm_text.specs.Words.{word_at, number_at, end_at, fault_here}
use Rattle.drm_text.proofs.LineReaders.{AreWords, AreLines, start_takes, start_again, last_takes, cut_lines}
use Rattle.drm_text.proofs.Spelled.{is_graphic, decimal_graphic, bytes_graphic}
use Rattle.drm_text.proofs.WordReaders.{bind_ok, ok_is, or_fault_ok, test_ok, ReadsLine, any_word, no_word, numbers_read, bytes_read}
use Rattle.drm_journal.specs.declared.journal.JournalJob.{JournalJob}
use Rattle.drm_journal.specs.declared.journal.Reading.{Reading}
use Rattle.drm_parse.specs.Grammar.{Line, job_words}
use Rattle.drm_parse.specs.Header.{header_at}
use Rattle.drm_parse.specs.Job.{job_at}
use Rattle.drm_journal.specs.Journal.{JournalParts, IsJournal, AreRecords, IsRead, status_of, is_record, record_or, record_at, final_at, size_of, with_job, with_final, with_end, with_body, journal_line, body_of, nothing_read, journal_of, judge_journal}
use Rattle.drm_journal.specs.JournalGrammar.{status_word, record_words, RecordFits, final_words, end_words, SpellsJournal}
use Rattle.drm_parse.proofs.HeaderReaders.{same_cons}
use Rattle.drm_parse.proofs.SpelledLines.{some_lines, job_graphic}
use Rattle.drm_parse.proofs.HeaderReaders.{as_bytes, left_in, header_takes, header_again}
use Rattle.drm_parse.proofs.JobReaders.{in_time, jobs_read, not_true}
use Rattle.drm_parse.proofs.PacketReaders.{some_is, choose, same_name}
use Rattle.drm_journal.proofs.Records.{one_more_job, one_more_final, below_length}
use Rattle.drm_parse.proofs.SpelledLines.{header_graphic, lines-append, lines_are, text_is}

-- ---- the words of a job and of a buffer

status_takes : (word : List ℕ) (o : Option Outcome) → status_of word ≡ Some o → word ≡ status_word o
status_takes word o e =
    elim (choose (bytes_eq word (codes "0")) (Some None) _ (Some o) e) [
      | inl is ↦ same_name word (codes "0") is.0 ∙ ap status_word (some_is None o is.1)
      | inr e1 ↦ elim (choose (bytes_eq word (codes "1")) (Some (Some outcome.Good)) _ (Some o) e1) [
        | inl is ↦ same_name word (codes "1") is.0 ∙ ap status_word (some_is (Some outcome.Good) o is.1)
        | inr e2 ↦ elim (choose (bytes_eq word (codes "-125")) (Some (Some outcome.Cancelled)) _ (Some o) e2) [
          | inl is ↦ same_name word (codes "-125") is.0 ∙ ap status_word (some_is (Some outcome.Cancelled) o is.1)
          | inr e3 ↦ elim (choose (bytes_eq word (codes "-3")) (Some (Some outcome.Stopped)) None (Some o) e3) [
            | inl is ↦ same_name word (codes "-3") is.0 ∙ ap status_word (some_is (Some outcome.Stopped) o is.1)
            | inr e4 ↦ absurd (cc)
          ]
        ]
      ]
    ]

status_again : (o : Option Outcome) → status_of (status_word o) ≡ Some o
status_again None = refl
status_again (Some outcome.Good) = refl
status_again (Some outcome.Cancelled) = refl
status_again (Some outcome.Stopped) = refl

status_is_word : (o : Option Outcome) → (0 < length (status_word o)) × (list_all is_graphic (status_word o) ≡ true)
status_is_word None = (omega arith, refl)
status_is_word (Some outcome.Good) = (omega arith, refl)
status_is_word (Some outcome.Cancelled) = (omega arith, refl)
status_is_word (Some outcome.Stopped) = (omega arith, refl)

abbrev record_fields : JournalJob → Line
record_fields armed = decimal armed.ran ∷ status_word armed.outcome ∷ job_words armed.job

abbrev the_record : Draft → ℕ → Option Outcome → JournalJob
the_record draft ran o = record { job = draft; ran = ran; outcome = o }

same_fields : (a b w : List ℕ) (p q r fields : List (List ℕ)) → p ≡ a ∷ q → q ≡ w ∷ r → w ≡ b → r ≡ fields → p ≡ a ∷ b ∷ fields
same_fields a b w p q r fields e f g h = cc

records_read : (spec : DeviceSpec) (number : ℕ) → ReadsLine (record_at spec number) record_fields (λ armed. RecordFits armed × IsTrue (is_record spec number armed))
unfolding record_at record_or
records_read spec number = record {
  takes = λ words x e.
      let bad = Text words.line 1 what.BadJob in
      let a = bind_ok (number_at (2 ^ 32 - 1) words) (λ ran. word_at ran.1 >>= λ word. or_fault (status_of word.0) (fault_here ran.1 what.Word) >>= λ o. job_at word.1 >>= λ draft. record_or spec number (the_record draft ran.0 o) bad) x e in
      let b = bind_ok (word_at a.0.1) (λ word. or_fault (status_of word.0) (fault_here a.0.1 what.Word) >>= λ o. job_at word.1 >>= λ draft. record_or spec number (the_record draft a.0.0 o) bad) x a.2 in
      let c = bind_ok (or_fault (status_of b.0.0) (fault_here a.0.1 what.Word)) (λ o. job_at b.0.1 >>= λ draft. record_or spec number (the_record draft a.0.0 o) bad) x b.2 in
      let d = bind_ok (job_at b.0.1) (λ draft. record_or spec number (the_record draft a.0.0 c.0) bad) x c.2 in
      let made = the_record d.0 a.0.0 c.0 in
      let t = test_ok (is_record spec number made) made x bad d.2 in
      let p = (numbers_read (2 ^ 32 - 1) (omega arith)).takes words a.0 a.1 in
      let q = any_word.takes a.0.1 b.0 b.1 in
      let r = status_takes b.0.0 c.0 (or_fault_ok (status_of b.0.0) (fault_here a.0.1 what.Word) c.0 c.1) in
      let s = jobs_read.takes b.0.1 d.0 d.1 in
      subst (λ (y : JournalJob). (words.rest.parts ≡ record_fields y) × (RecordFits y × IsTrue (is_record spec number y))) t.1
      (same_fields _ _ _ _ _ _ _ p.0 q.0 r s.0, ((p.1, s.1), t.0));
  again = λ words x is fits.
      let a = (numbers_read (2 ^ 32 - 1) (omega arith)).again words x.ran (status_word x.outcome ∷ job_words x.job) is fits.0.0 in
      let b = any_word.again a.0 (status_word x.outcome) (job_words x.job) a.2 (status_is_word x.outcome).0 in
      rw (a.1, b.1, status_again x.outcome, jobs_read.again b.0 x.job b.2 fits.0.1, fits.1) refl;
}

test_then : {A : Type 0} (b : Bool) (r : Result A Fault) (fault : Fault) (y : A) → cond b r (Err fault) ≡ Ok y → (b ≡ true) × (r ≡ Ok y)
test_then true r fault y e = (refl, e)
test_then false r fault y e = absurd (cc)

finals_read : (size : ℕ) → ReadsLine (final_at size) (λ bytes. text_of_bytes bytes ∷ []) (λ bytes. AreBytes bytes × (length bytes ≡ size))
unfolding final_at
finals_read size = record {
  takes = λ words x e.
      let bad = fault_here words what.Number in
      let a = bind_ok (bytes_at words) (λ bytes. cond (length bytes.0 == size) (end_at bytes.1 >>= λ _. Ok bytes.0) (Err bad)) x e in
      let t = test_then (length a.0.0 == size) (end_at a.0.1 >>= λ _. Ok a.0.0) bad x a.2 in
      let b = bind_ok (end_at a.0.1) (λ _. Ok a.0.0) x t.1 in
      let p = bytes_read.takes words a.0 a.1 in
      let q = (no_word.takes a.0.1 b.0 b.1).0 in
      subst (λ (y : List ℕ). (words.rest.parts ≡ text_of_bytes y ∷ []) × (AreBytes y × (length y ≡ size))) (ok_is a.0.0 x b.2)
      (p.0 ∙ ap (λ (r : List (List ℕ)). text_of_bytes a.0.0 ∷ r) q, (p.1, eqb-true _ _ t.0));
  again = λ words x is fits.
      let a = bytes_read.again words x [] is fits.0 in
      rw (a.1, eq-eqb (length x) size fits.1, no_word.again a.0 tt a.2 tt) refl;
}

-- ---- one line

-- what a line tells of a journal
data Tells (spec : DeviceSpec) (reading : Reading) (words : Line) (next : Reading) : Type 0 where
  of_a_job : (armed : JournalJob) → words ≡ record_words armed → RecordFits armed → IsTrue (is_record spec (length reading.jobs) armed)
      → next ≡ record reading { jobs = reading.jobs ++ armed ∷ [] } → is_nil reading.finals ≡ true → reading.is_over ≡ false → Tells spec reading words next
  of_a_buffer : (bytes : List ℕ) → words ≡ final_words bytes → AreBytes bytes → size_of spec (length reading.finals) ≡ Some (length bytes)
      → next ≡ record reading { finals = reading.finals ++ bytes ∷ [] } → Tells spec reading words next
  of_the_end : words ≡ end_words → length reading.finals ≡ length spec.buffers → reading.is_over ≡ false → next ≡ record reading { is_over = true }
      → Tells spec reading words next

job_takes : (spec : DeviceSpec) (reading : Reading) (n : ℕ) (words : Words) (next : Reading) → with_job spec (length reading.jobs) reading n words ≡ Ok next → Tells spec reading (codes "job" ∷ words.rest.parts) next
job_takes spec reading n words next e =
    let add = λ (armed : JournalJob). let r : Reading = record reading { jobs = reading.jobs ++ armed ∷ [] } in r in
    let t = test_then (is_nil reading.finals && not reading.is_over) (record_at spec (length reading.jobs) words >>= λ armed. Ok (add armed)) (out_of_order n) next e in
    let places = and_parts _ _ t.0 in
    let a = bind_ok (record_at spec (length reading.jobs) words) (λ armed. Ok (add armed)) next t.1 in
    let r = (records_read spec (length reading.jobs)).takes words a.0 a.1 in
    of_a_job a.0 (ap (λ (p : Line). codes "job" ∷ p) r.0) r.1.0 r.1.1 (sym (ok_is (add a.0) next a.2)) places.0 (not_true reading.is_over places.1)

final_takes : (spec : DeviceSpec) (reading : Reading) (n : ℕ) (words : Words) (next : Reading) → with_final spec reading n words ≡ Ok next → Tells spec reading (codes "final" ∷ words.rest.parts) next
final_takes spec reading n words next e =
    let add = λ (bytes : List ℕ). let r : Reading = record reading { finals = reading.finals ++ bytes ∷ [] } in r in
    let a = bind_ok (or_fault (size_of spec (length reading.finals)) (out_of_order n)) (λ size. final_at size words >>= λ bytes. Ok (add bytes)) next e in
    let b = bind_ok (final_at a.0 words) (λ bytes. Ok (add bytes)) next a.2 in
    let size = or_fault_ok (size_of spec (length reading.finals)) (out_of_order n) a.0 a.1 in
    let r = (finals_read a.0).takes words b.0 b.1 in
    of_a_buffer b.0 (ap (λ (p : Line). codes "final" ∷ p) r.0) r.1.0 (size ∙ ap (λ (k : ℕ). Some k) (sym r.1.1)) (sym (ok_is (add b.0) next b.2))

end_takes : (spec : DeviceSpec) (reading : Reading) (n : ℕ) (words : Words) (next : Reading) → with_end spec reading n words ≡ Ok next → Tells spec reading (codes "end" ∷ words.rest.parts) next
end_takes spec reading n words next e =
    let over : Reading = record reading { is_over = true } in
    let t = test_then ((length reading.finals == length spec.buffers) && not reading.is_over) (end_at words >>= λ _. Ok over) (out_of_order n) next e in
    let places = and_parts _ _ t.0 in
    let a = bind_ok (end_at words) (λ _. Ok over) next t.1 in
    let r = no_word.takes words a.0 a.1 in
    of_the_end (ap (λ (p : Line). codes "end" ∷ p) r.0) (eqb-true _ _ places.0) (not_true reading.is_over places.1) (sym (ok_is over next a.2))

body_takes : (spec : DeviceSpec) (reading : Reading) (n : ℕ) (keyword : Keyword) (words : Words) (next : Reading) → with_body spec (length reading.jobs) reading n keyword words ≡ Ok next
    → Tells spec reading (keyword_text keyword ∷ words.rest.parts) next
body_takes spec reading n line.Job words next e = job_takes spec reading n words next e
body_takes spec reading n line.Final words next e = final_takes spec reading n words next e
body_takes spec reading n (line.Command command.End) words next e = end_takes spec reading n words next e
body_takes spec reading n other words next e = absurd (cc)

line_takes : (spec : DeviceSpec) (reading : Reading) (n : ℕ) (bytes : List ℕ) (next : Reading) → journal_line spec (length reading.jobs) reading n bytes ≡ Ok next
    → (words : Line) × (bytes ≡ join_with_byte 32 words) × Tells spec reading words next
unfolding journal_line
line_takes spec reading n bytes next e =
    let a = bind_ok (start_at n bytes) (λ start. with_body spec (length reading.jobs) reading n start.0 start.1) next e in
    (keyword_text a.0.0 ∷ a.0.1.rest.parts, start_takes n bytes a.0 a.1, body_takes spec reading n a.0.0 a.0.1 next a.2)

-- ---- all lines behind the header

abbrev pub body_lines : List JournalJob → List (List ℕ) → List Line
body_lines jobs finals = map record_words jobs ++ map final_words finals ++ end_words ∷ []

abbrev lines_left : Bool → List JournalJob → List (List ℕ) → List Line
lines_left true jobs finals = []
lines_left false jobs finals = body_lines jobs finals

abbrev with_more : Reading → List JournalJob → List (List ℕ) → Reading
with_more reading jobs finals = record { jobs = reading.jobs ++ jobs; finals = reading.finals ++ finals; is_over = true }

record Body (spec : DeviceSpec) (reading : Reading) (parts : List (List ℕ)) (out : Reading) : Type 0 where
  jobs : List JournalJob
  finals : List (List ℕ)
  words : parts ≡ cut_lines (lines_left reading.is_over jobs finals)
  jobs_fit : AllByRecursion RecordFits jobs
  finals_fit : AllByRecursion AreBytes finals
  adds : out ≡ with_more reading jobs finals
  no_jobs : is_nil reading.finals ≡ false → jobs ≡ []
  over : reading.is_over ≡ true → (jobs ≡ []) × (finals ≡ [])
  read : IsRead spec out

never : {A : Type 0} (b : Bool) → b ≡ true → b ≡ false → A
never b is other = absurd (let e : true ≡ false = sym is ∙ other in cc)

more_is_some : {A : Type 0} (xs : List A) (x : A) → is_nil (xs ++ x ∷ []) ≡ false
more_is_some [] x = refl
more_is_some (y ∷ xs) x = refl

not_over : (b : Bool) → (b ≡ true → ⊥) → b ≡ false
not_over true no_way = absurd (no_way refl)
not_over false no_way = refl

job_more : (spec : DeviceSpec) (reading : Reading) (bytes : List ℕ) (rest : List (List ℕ)) (out : Reading) (armed : JournalJob) → bytes ≡ join_with_byte 32 (record_words armed) → RecordFits armed
    → is_nil reading.finals ≡ true → reading.is_over ≡ false → Body spec (record reading { jobs = reading.jobs ++ armed ∷ [] }) rest out → Body spec reading (bytes ∷ rest) out
job_more spec reading bytes rest out armed is fits first going b = record {
  jobs = armed ∷ b.jobs;
  finals = b.finals;
  words = same_cons _ _ _ _ is (b.words ∙ ap (λ (o : Bool). cut_lines (lines_left o b.jobs b.finals)) going) ∙ ap (λ (o : Bool). cut_lines (lines_left o (armed ∷ b.jobs) b.finals)) (sym going);
  jobs_fit = (fits, b.jobs_fit);
  finals_fit = b.finals_fit;
  adds = b.adds ∙ ap (λ (js : List JournalJob). let r : Reading = record { jobs = js; finals = reading.finals ++ b.finals; is_over = true } in r) (append_assoc reading.jobs (armed ∷ []) b.jobs);
  no_jobs = λ some. never _ first some;
  over = λ ended. never _ ended going;
  read = b.read;
}

final_more : (spec : DeviceSpec) (reading : Reading) (bytes : List ℕ) (rest : List (List ℕ)) (out : Reading) (final : List ℕ) → bytes ≡ join_with_byte 32 (final_words final) → AreBytes final
    → reading.is_over ≡ false → Body spec (record reading { finals = reading.finals ++ final ∷ [] }) rest out → Body spec reading (bytes ∷ rest) out
final_more spec reading bytes rest out final is fits going b =
    let none = b.no_jobs (more_is_some reading.finals final) in record {
      jobs = [];
      finals = final ∷ b.finals;
      words = same_cons _ _ _ _ is (b.words ∙ ap (λ (o : Bool). cut_lines (lines_left o b.jobs b.finals)) going ∙ ap (λ (js : List JournalJob). cut_lines (body_lines js b.finals)) none)
          ∙ ap (λ (o : Bool). cut_lines (lines_left o [] (final ∷ b.finals))) (sym going);
      jobs_fit = tt;
      finals_fit = (fits, b.finals_fit);
      adds = b.adds ∙ ap (λ (js : List JournalJob). with_more (record reading { finals = reading.finals ++ final ∷ [] }) js b.finals) none
          ∙ ap (λ (fs : List (List ℕ)). let r : Reading = record { jobs = reading.jobs ++ []; finals = fs; is_over = true } in r) (append_assoc reading.finals (final ∷ []) b.finals);
      no_jobs = λ _. refl;
      over = λ ended. never _ ended going;
      read = b.read;
    }

end_more : (spec : DeviceSpec) (reading : Reading) (bytes : List ℕ) (rest : List (List ℕ)) (out : Reading) → bytes ≡ join_with_byte 32 end_words → reading.is_over ≡ false
    → Body spec (record reading { is_over = true }) rest out → Body spec reading (bytes ∷ rest) out
end_more spec reading bytes rest out is going b =
    let none = b.over refl in record {
      jobs = [];
      finals = [];
      words = same_cons _ _ _ _ is b.words ∙ ap (λ (o : Bool). cut_lines (lines_left o [] [])) (sym going);
      jobs_fit = tt;
      finals_fit = tt;
      adds = b.adds ∙ ap (λ (js : List JournalJob). with_more (record reading { is_over = true }) js b.finals) none.0 ∙ ap (λ (fs : List (List ℕ)). with_more (record reading { is_over = true }) [] fs) none.1;
      no_jobs = λ _. refl;
      over = λ _. (refl, refl);
      read = b.read;
    }

-- what holds of what was read holds with one more line
tells_read : (spec : DeviceSpec) (reading : Reading) (words : Line) (next : Reading) → IsRead spec reading → Tells spec reading words next → IsRead spec next
tells_read spec reading words next read (of_a_job armed spelled fits lawful makes first going) =
    subst (λ (r : Reading). IsRead spec r) (sym makes) (one_more_job spec reading armed read lawful)
tells_read spec reading words next read (of_a_buffer final spelled fits size makes) =
    subst (λ (r : Reading). IsRead spec r) (sym makes) (one_more_final spec reading (length final) final read size refl)
tells_read spec reading words next read (of_the_end spelled all going makes) =
    subst (λ (r : Reading). IsRead spec r) (sym makes) (read.0, read.1, λ _. all)

pub line_keeps : (spec : DeviceSpec) (reading : Reading) (n : ℕ) (bytes : List ℕ) (next : Reading) → IsRead spec reading → journal_line spec (length reading.jobs) reading n bytes ≡ Ok next
    → IsRead spec next
line_keeps spec reading n bytes next read e =
    let told = line_takes spec reading n bytes next e in
    tells_read spec reading told.0 next read told.2

one_line : (spec : DeviceSpec) (reading : Reading) (bytes : List ℕ) (rest : List (List ℕ)) (out : Reading) (words : Line) (next : Reading) → IsRead spec reading → bytes ≡ join_with_byte 32 words
    → Tells spec reading words next → Body spec next rest out → Body spec reading (bytes ∷ rest) out
one_line spec reading bytes rest out words next read is (of_a_job armed spelled fits lawful makes first going) more =
    job_more spec reading bytes rest out armed (is ∙ ap (join_with_byte 32) spelled) fits first going (subst (λ (r : Reading). Body spec r rest out) makes more)
one_line spec reading bytes rest out words next read is (of_a_buffer final spelled fits size makes) more =
    let less : length reading.finals < length spec.buffers = below_length spec.buffers (length reading.finals) (length final) size in
    let going = not_over reading.is_over (λ ended. absurd (let all : length reading.finals ≡ length spec.buffers = read.2 ended in omega arith)) in
    final_more spec reading bytes rest out final (is ∙ ap (join_with_byte 32) spelled) fits going (subst (λ (r : Reading). Body spec r rest out) makes more)
one_line spec reading bytes rest out words next read is (of_the_end spelled all going makes) more =
    end_more spec reading bytes rest out (is ∙ ap (join_with_byte 32) spelled) going (subst (λ (r : Reading). Body spec r rest out) makes more)

nothing_more : (reading : Reading) → reading.is_over ≡ true → reading ≡ with_more reading [] []
nothing_more reading ended = rw (append-nil reading.jobs, append-nil reading.finals) (ap (λ (o : Bool). let r : Reading = record { jobs = reading.jobs; finals = reading.finals; is_over = o } in r) ended)

lines_take : (spec : DeviceSpec) (reading : Reading) (n : ℕ) (bytes : List ℕ) (more : List (List ℕ)) (out : Reading) → IsRead spec reading → body_of spec reading n bytes more ≡ Ok out
    → Body spec reading (bytes ∷ more) out
unfolding body_of
lines_take spec reading n bytes [] out read e =
    let a = bind_ok (last_line n bytes) (λ _. cond reading.is_over (Ok reading) (Err (out_of_order n))) out e in
    let t = test_ok reading.is_over reading out (out_of_order n) a.2 in record {
      jobs = [];
      finals = [];
      words = ap (λ (b : List ℕ). b ∷ []) (last_takes n bytes a.0 a.1) ∙ ap (λ (o : Bool). cut_lines (lines_left o [] [])) (sym t.0);
      jobs_fit = tt;
      finals_fit = tt;
      adds = sym t.1 ∙ nothing_more reading t.0;
      no_jobs = λ _. refl;
      over = λ _. (refl, refl);
      read = subst (λ (r : Reading). IsRead spec r) t.1 read;
    }
lines_take spec reading n bytes (next ∷ rest) out read e =
    let a = bind_ok (journal_line spec (length reading.jobs) reading n bytes) (λ r. body_of spec r (n + 1) next rest) out e in
    let l = line_takes spec reading n bytes a.0 a.1 in
    one_line spec reading bytes (next ∷ rest) out l.0 a.0 read l.1 l.2 (lines_take spec a.0 (n + 1) next rest out (tells_read spec reading l.0 a.0 read l.2) a.2)

-- ---- what is written

body_in : DeviceSpec → Reading → ℕ → List (List ℕ) → Result Reading Fault
body_in spec reading n parts = body_of spec reading n (left_in n parts).bytes (left_in n parts).more

one_read : (spec : DeviceSpec) (reading : Reading) (n : ℕ) (bytes : List ℕ) (more : List (List ℕ)) → 0 < length more
    → body_in spec reading n (bytes ∷ more) ≡ (journal_line spec (length reading.jobs) reading n bytes >>= λ r. body_in spec r (n + 1) more)
unfolding body_of body_in
one_read spec reading n bytes [] some = absurd (omega arith)
one_read spec reading n bytes (next ∷ rest) some = refl

line_again : (spec : DeviceSpec) (reading : Reading) (n : ℕ) (keyword : Keyword) (fields : Line) (next : Reading) → AreWords fields
    → ((words : Words) → words.rest.parts ≡ fields → with_body spec (length reading.jobs) reading n keyword words ≡ Ok next) → journal_line spec (length reading.jobs) reading n (join_with_byte 32 (keyword_text keyword ∷ fields)) ≡ Ok next
unfolding journal_line
line_again spec reading n keyword fields next are read = let s = start_again n keyword fields are in rw s.1 (read s.0 s.2)

next_line : (spec : DeviceSpec) (reading : Reading) (n : ℕ) (bytes : List ℕ) (more : List (List ℕ)) (next : Reading) → 0 < length more → journal_line spec (length reading.jobs) reading n bytes ≡ Ok next
    → body_in spec reading n (bytes ∷ more) ≡ body_in spec next (n + 1) more
next_line spec reading n bytes more next some read =
    one_read spec reading n bytes more some ∙ ap (λ (r : Result Reading Fault). r >>= λ r. body_in spec r (n + 1) more) read

over_here : (spec : DeviceSpec) (reading : Reading) (n : ℕ) → reading.is_over ≡ true → body_in spec reading n (cut_lines []) ≡ Ok reading
unfolding body_of body_in
over_here spec reading n ended = rw ended refl

end_again : (spec : DeviceSpec) (reading : Reading) (n : ℕ) → reading.is_over ≡ false → length reading.finals ≡ length spec.buffers
    → body_in spec reading n (cut_lines (end_words ∷ [])) ≡ Ok (record reading { is_over = true })
end_again spec reading n going all =
    let next : Reading = record reading { is_over = true } in
    next_line spec reading n (join_with_byte 32 end_words) (cut_lines []) next (some_lines [])
    (line_again spec reading n (line.Command command.End) [] next tt
    (λ words is. rw (eq-eqb (length reading.finals) (length spec.buffers) all, going, no_word.again words tt is tt) refl))
    ∙ over_here spec next (n + 1) refl

sizes_at : (buffers front : List (List ℕ)) (final : List ℕ) (rest : List (List ℕ)) → map length (front ++ final ∷ rest) ≡ map length buffers
    → option_map length (slice_get buffers (length front)) ≡ Some (length final)
sizes_at [] [] final rest same = absurd (cc)
sizes_at [] (f ∷ front) final rest same = absurd (cc)
sizes_at (b ∷ buffers) [] final rest same = let e : length final ≡ length b = cc in ap (λ (n : ℕ). Some n) (sym e)
sizes_at (b ∷ buffers) (f ∷ front) final rest same = let tail : map length (front ++ final ∷ rest) ≡ map length buffers = cc in sizes_at buffers front final rest tail

same_lengths : (xs ys : List (List ℕ)) → map length xs ≡ map length ys → length xs ≡ length ys
same_lengths [] [] same = refl
same_lengths [] (y ∷ ys) same = absurd (cc)
same_lengths (x ∷ xs) [] same = absurd (cc)
same_lengths (x ∷ xs) (y ∷ ys) same = let tail : map length xs ≡ map length ys = cc in ap suc (same_lengths xs ys tail)

finals_again : (fs : List (List ℕ)) (spec : DeviceSpec) (reading : Reading) (n : ℕ) → AllByRecursion AreBytes fs → reading.is_over ≡ false
    → map length (reading.finals ++ fs) ≡ map length spec.buffers → body_in spec reading n (cut_lines (body_lines [] fs)) ≡ Ok (with_more reading [] fs)
finals_again [] spec reading n fit going sizes =
    end_again spec reading n going (same_lengths reading.finals spec.buffers (ap (map length) (sym (append-nil reading.finals)) ∙ sizes))
    ∙ ap (λ (r : Reading). Ok r) (nothing_more (record reading { is_over = true }) refl)
finals_again (f ∷ fs) spec reading n fit going sizes =
    let next : Reading = record reading { finals = reading.finals ++ f ∷ [] } in
    let size : size_of spec (length reading.finals) ≡ Some (length f) = sizes_at spec.buffers reading.finals f fs sizes in
    next_line spec reading n (join_with_byte 32 (final_words f)) (cut_lines (body_lines [] fs)) next (some_lines (body_lines [] fs))
    (line_again spec reading n line.Final (text_of_bytes f ∷ []) next (bytes_graphic f fit.0.1, tt)
    (λ words is. rw (size, (finals_read (length f)).again words f is (fit.0, refl)) refl))
    ∙ finals_again fs spec next (n + 1) fit.1 going (ap (map length) (append_assoc reading.finals (f ∷ []) fs) ∙ sizes)
    ∙ ap (λ (all : List (List ℕ)). let r : Reading = record { jobs = reading.jobs ++ []; finals = all; is_over = true } in Ok r) (append_assoc reading.finals (f ∷ []) fs)

record_graphic : (armed : JournalJob) → RecordFits armed → AreWords (record_fields armed)
record_graphic armed fits =
    (decimal_graphic armed.ran (let s : armed.ran ≤ 2 ^ 32 - 1 = fits.0 in omega arith), ((status_is_word armed.outcome).1, job_graphic armed.job fits.1))

jobs_again : (js : List JournalJob) (fs : List (List ℕ)) (spec : DeviceSpec) (reading : Reading) (n : ℕ) → AllByRecursion RecordFits js → AllByRecursion AreBytes fs
    → reading.finals ≡ [] → reading.is_over ≡ false → AreRecords spec (length reading.jobs) js → map length fs ≡ map length spec.buffers
    → body_in spec reading n (cut_lines (body_lines js fs)) ≡ Ok (with_more reading js fs)
jobs_again [] fs spec reading n fit fits first going are sizes =
    finals_again fs spec reading n fits going (ap (λ (front : List (List ℕ)). map length (front ++ fs)) first ∙ sizes)
jobs_again (armed ∷ js) fs spec reading n fit fits first going are sizes =
    let next : Reading = record reading { jobs = reading.jobs ++ armed ∷ [] } in
    let counted : length reading.jobs + 1 ≡ length (reading.jobs ++ armed ∷ []) = omega (arith, length-append reading.jobs (armed ∷ [])) in
    let none : is_nil reading.finals ≡ true = ap is_nil first in
    next_line spec reading n (join_with_byte 32 (record_words armed)) (cut_lines (body_lines js fs)) next (some_lines (body_lines js fs))
    (line_again spec reading n line.Job (record_fields armed) next (record_graphic armed fit.0)
    (λ words is. rw (none, going, (records_read spec (length reading.jobs)).again words armed is (fit.0, are.0)) refl))
    ∙ jobs_again js fs spec next (n + 1) fit.1 fits first going (subst (λ (k : ℕ). AreRecords spec k js) counted are.1) sizes
    ∙ ap (λ (all : List JournalJob). let r : Reading = record { jobs = all; finals = reading.finals ++ fs; is_over = true } in Ok r) (append_assoc reading.jobs (armed ∷ []) js)

records_graphic : (js : List JournalJob) → AllByRecursion RecordFits js → AreLines (map record_words js)
records_graphic [] fit = tt
records_graphic (armed ∷ js) fit = ((refl, record_graphic armed fit.0), records_graphic js fit.1)

finals_graphic : (fs : List (List ℕ)) → AllByRecursion AreBytes fs → AreLines (map final_words fs)
finals_graphic [] fit = tt
finals_graphic (f ∷ fs) fit = ((refl, (bytes_graphic f fit.0.1, tt)), finals_graphic fs fit.1)

body_graphic : (js : List JournalJob) (fs : List (List ℕ)) → AllByRecursion RecordFits js → AllByRecursion AreBytes fs → AreLines (body_lines js fs)
body_graphic js fs fit fits =
    lines-append (map record_words js ++ map final_words fs) (end_words ∷ []) (lines-append (map record_words js) (map final_words fs) (records_graphic js fit) (finals_graphic fs fits)) ((refl, tt), tt)

-- ---- journals

abbrev pub the_journal : DeviceSpec → Reading → JournalParts
the_journal spec reading = record { spec = spec; jobs = reading.jobs; finals = reading.finals }

pub none_read : (spec : DeviceSpec) → IsRead spec nothing_read
none_read spec = (tt, refl, λ ended. never _ ended refl)

take_all_lengths : (xs : List ℕ) (n : ℕ) → n ≡ length xs → take n xs ≡ xs
take_all_lengths xs n is = ap (λ (k : ℕ). take k xs) is ∙ take-length xs

-- what was read up to the end is a journal
pub is_journal : (spec : DeviceSpec) (reading : Reading) → spec_fault spec ≡ None → IsRead spec reading → reading.is_over ≡ true → IsJournal (the_journal spec reading)
is_journal spec reading fits read ended =
    let all : length reading.finals ≡ length spec.buffers = read.2 ended in
    let lengths : length (map length spec.buffers) ≡ length spec.buffers = length-map spec.buffers length in
    (fits, read.0, read.1 ∙ take_all_lengths (map length spec.buffers) (length reading.finals) (all ∙ sym lengths))

-- a text that is read as a journal spells it
pub journal_takes : (text : List ℕ) (journal : JournalParts) → judge_journal text ≡ Ok journal → SpellsJournal text journal
unfolding judge_journal SpellsJournal
journal_takes text journal e =
    let short = in_time (nat_lt 1048576 (length text)) (Text 0 0 what.TooLong) (journal_of (lines_of text)) journal e in
    let a = bind_ok (header_at (lines_of text)) (λ h. body_of h.0 nothing_read h.1.line h.1.bytes h.1.more >>= λ reading. Ok (the_journal h.0 reading)) journal short.1 in
    let b = bind_ok (body_of a.0.0 nothing_read a.0.1.line a.0.1.bytes a.0.1.more) (λ reading. Ok (the_journal a.0.0 reading)) journal a.2 in
    let h = header_takes (lines_of text) a.0 a.1 in
    let body = lines_take a.0.0 nothing_read a.0.1.line a.0.1.bytes a.0.1.more b.0 (none_read a.0.0) b.1 in
    let ended : b.0.is_over ≡ true = ap (λ (r : Reading). r.is_over) body.adds in
    let jobs : body.jobs ≡ b.0.jobs = sym (ap (λ (r : Reading). r.jobs) body.adds) in
    let finals : body.finals ≡ b.0.finals = sym (ap (λ (r : Reading). r.finals) body.adds) in
    let rest = body_lines body.jobs body.finals in
    let is : text ≡ text_of_lines (h.0 ++ body_lines b.0.jobs b.0.finals) =
    text_is text h.0 rest a.0.1 h.2 body.words
    ∙ ap (λ (js : List JournalJob). text_of_lines (h.0 ++ body_lines js body.finals)) jobs
    ∙ ap (λ (fs : List (List ℕ)). text_of_lines (h.0 ++ body_lines b.0.jobs fs)) finals in
    subst (λ (j : JournalParts). SpellsJournal text j) (ok_is (the_journal a.0.0 b.0) journal b.2) (
      h.0,
      h.1,
      is_journal a.0.0 b.0 h.1.6 body.read ended,
      subst (λ (js : List JournalJob). AllByRecursion RecordFits js) jobs body.jobs_fit,
      subst (λ (fs : List (List ℕ)). AllByRecursion AreBytes fs) finals body.finals_fit,
      is,
      ltb-false _ _ short.0,
    )

body_left : (spec : DeviceSpec) (n : ℕ) (parts : List (List ℕ)) → 0 < length parts
    → body_of spec nothing_read (left_in n parts).line (left_in n parts).bytes (left_in n parts).more ≡ body_in spec nothing_read n parts
unfolding body_in
body_left spec n [] some = absurd (omega arith)
body_left spec n (bytes ∷ more) some = refl

-- a text that spells a journal is read as it
pub journal_again : (text : List ℕ) (journal : JournalParts) → SpellsJournal text journal → judge_journal text ≡ Ok journal
unfolding judge_journal SpellsJournal
journal_again text journal spells =
    let header = spells.0 in
    let rest = body_lines journal.jobs journal.finals in
    let lines : lines_of text ≡ left_in 1 (as_bytes header ++ cut_lines rest) =
    lines_are text header rest (header_graphic header journal.spec spells.1) (body_graphic journal.jobs journal.finals spells.3 spells.4) spells.5 in
    let short : nat_lt 1048576 (length text) ≡ false = le-ltb _ _ spells.6 in
    let h = header_again 1 header journal.spec (cut_lines rest) spells.1 (some_lines rest) in
    let body = body_left journal.spec h.0 (cut_lines rest) (some_lines rest)
    ∙ jobs_again journal.jobs journal.finals journal.spec nothing_read h.0 spells.3 spells.4 refl refl spells.2.1 spells.2.2 in
    ap (λ (b : Bool). cond b (Err (Text 0 0 what.TooLong)) (journal_of (lines_of text))) short
    ∙ ap journal_of lines
    ∙ ap (λ (r : Result (DeviceSpec × Left) Fault). r >>= λ h. body_of h.0 nothing_read h.1.line h.1.bytes h.1.more >>= λ reading. Ok (the_journal h.0 reading)) h.1
    ∙ ap (λ (r : Result Reading Fault). r >>= λ reading. Ok (the_journal journal.spec reading)) body

pub journal_found : (text : List ℕ) (result : Result JournalParts ReadError) → Gives (λ j. j) result (judge_journal text) → IfOk result (λ j. SpellsJournal text j)
journal_found text (Ok journal) gives = journal_takes text journal gives
journal_found text (Err e) gives = tt

pub journal_only : (text : List ℕ) (result : Result JournalParts ReadError) → Gives (λ j. j) result (judge_journal text) → (journal : JournalParts) → SpellsJournal text journal
    → Gives (λ j. j) result (Ok journal)
journal_only text result gives journal spells = subst (λ (judged : Result JournalParts Fault). Gives (λ j. j) result judged) (journal_again text journal spells) gives

-- what a text spells is a journal
pub journal_stands : (text : List ℕ) (journal : JournalParts) → SpellsJournal text journal → IsJournal journal
unfolding SpellsJournal
journal_stands text journal spells = spells.2
