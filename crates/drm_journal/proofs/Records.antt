-- What was read of a journal, with one more line.
use Rattle.std.proofs.Common.{◌≡◌, ℕ, zero, suc, ◌+◌, ◌<◌, List, [], ◌∷◌, ◌++◌, length, map, take, Some, refl, ap, arith}
use Rattle.std.specs.Prelude.{IsTrue, slice_get, option_map}
use Rattle.drm_types.specs.declared.spec.DeviceSpec.{DeviceSpec}
use Rattle.drm_journal.specs.declared.journal.JournalJob.{JournalJob}
use Rattle.drm_journal.specs.declared.journal.Reading.{Reading}
use Rattle.drm_journal.specs.Journal.{AreRecords, IsRead, is_record, size_of}

pub one_more_record : (spec : DeviceSpec) (number : ℕ) (jobs : List JournalJob) (job : JournalJob) → AreRecords spec number jobs
    → IsTrue (is_record spec (number + length jobs) job) → AreRecords spec number (jobs ++ job ∷ [])
one_more_record spec number [] job read is =
    let same : number + length {A = JournalJob} [] ≡ number = omega arith in (rw same at is, tt)
one_more_record spec number (first ∷ jobs) job read is =
    (read.0, one_more_record spec (number + 1) jobs job read.1 (let same : number + 1 + length jobs ≡ number + suc (length jobs) = omega arith in rw same is))

-- the sizes of the first buffers, and of one more
pub one_more_size : (buffers finals : List (List ℕ)) (size : ℕ) (bytes : List ℕ) → option_map length (slice_get buffers (length finals)) ≡ Some size
    → length bytes ≡ size → map length finals ≡ take (length finals) (map length buffers)
    → map length (finals ++ bytes ∷ []) ≡ take (length (finals ++ bytes ∷ [])) (map length buffers)
one_more_size [] [] size bytes is same read = absurd (cc)
one_more_size [] (final ∷ finals) size bytes is same read = absurd (cc)
one_more_size (first ∷ buffers) [] size bytes is same read = let e : length first ≡ size = cc in rw (same, e) refl
one_more_size (first ∷ buffers) (final ∷ finals) size bytes is same read =
    let head : length final ≡ length first = cc in
    let tail : map length finals ≡ take (length finals) (map length buffers) = cc in
    rw head (ap (λ (sizes : List ℕ). length first ∷ sizes) (one_more_size buffers finals size bytes is same tail))

-- what was read, with one more job
pub one_more_job : (spec : DeviceSpec) (reading : Reading) (job : JournalJob) → IsRead spec reading → IsTrue (is_record spec (length reading.jobs) job)
    → IsRead spec (record reading { jobs = reading.jobs ++ job ∷ [] })
one_more_job spec reading job read is =
    let same : 0 + length reading.jobs ≡ length reading.jobs = omega arith in
    (one_more_record spec 0 reading.jobs job read.0 (rw same is), read.1, read.2)

pub below_length : (xs : List (List ℕ)) (k size : ℕ) → option_map length (slice_get xs k) ≡ Some size → k < length xs
below_length [] k size e = absurd (cc)
below_length (y ∷ xs) zero size e = omega arith
below_length (y ∷ xs) (suc k) size e = let lt : k < length xs = below_length xs k size e in omega arith

-- what was read, with the bytes of one more buffer
pub one_more_final : (spec : DeviceSpec) (reading : Reading) (size : ℕ) (bytes : List ℕ) → IsRead spec reading
    → size_of spec (length reading.finals) ≡ Some size → length bytes ≡ size
    → IsRead spec (record reading { finals = reading.finals ++ bytes ∷ [] })
one_more_final spec reading size bytes read is same =
    let lt : length reading.finals < length spec.buffers = below_length spec.buffers (length reading.finals) size is in
    (read.0, one_more_size spec.buffers reading.finals size bytes is same read.1, λ over. absurd (let all : length reading.finals ≡ length spec.buffers = read.2 over in omega arith))
