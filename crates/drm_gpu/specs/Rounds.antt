-- How a submission takes all its locks: in rounds, each of which but the last is given up.
use Rattle.std.specs.Prelude.{◌≡◌, ◌<◌, ℕ, List, [], ◌∷◌, ◌++◌, Some, length, slice_get}
use Rattle.ww_lock.specs.Rule.{In}
use Rattle.drm_types.specs.declared.access.Access.{Access}
use Rattle.drm_job.specs.declared.Draft.{Draft}

-- the job declares the buffer
abbrev pub Declares : Draft → ℕ → Type 0
Declares job b = (k : ℕ) × (d : ℕ × Access) × (slice_get job.declared k ≡ Some d) × (d.0 ≡ b)

-- a lock that was taken: its buffer, and the tickets of the holders that the tries before it found
pub record Lock : Type 0 where
  pub buffer : ℕ
  pub waited : List ℕ

-- a round that was given up: what it locked, and the buffer whose last try found an older holder, behind those that
-- were waited for
pub record Round : Type 0 where
  pub locks : List Lock
  pub contended : ℕ
  pub waited : List ℕ
  pub older : ℕ

-- the buffers that were locked, and what the pass notes of them
abbrev pub buffers_of : List Lock → List ℕ
buffers_of [] = []
buffers_of (l ∷ ls) = l.buffer ∷ buffers_of ls

abbrev pub claims_of : ℕ → List Lock → List (ℕ × ℕ)
claims_of ticket [] = []
claims_of ticket (l ∷ ls) = (l.buffer, ticket) ∷ claims_of ticket ls

-- the holders of one buffer, as the pass notes them
abbrev pub holders_of : ℕ → List ℕ → List (ℕ × ℕ)
holders_of b [] = []
holders_of b (h ∷ hs) = (b, h) ∷ holders_of b hs

abbrev pub met_of : List Lock → List (ℕ × ℕ)
met_of [] = []
met_of (l ∷ ls) = holders_of l.buffer l.waited ++ met_of ls

-- those that a round met at its end
abbrev pub met_last : Round → List (ℕ × ℕ)
met_last r = holders_of r.contended (r.waited ++ r.older ∷ [])

-- all claims of rounds and of a last one, and all holders that were met
abbrev pub all_claims : ℕ → List Round → List Lock → List (ℕ × ℕ)
all_claims ticket [] last = claims_of ticket last
all_claims ticket (r ∷ rs) last = claims_of ticket r.locks ++ all_claims ticket rs last

abbrev pub all_met : List Round → List Lock → List (ℕ × ℕ)
all_met [] last = met_of last
all_met (r ∷ rs) last = met_of r.locks ++ (met_last r ++ all_met rs last)

-- what is held behind rounds and a last one: only the first begins with what was held before
abbrev pub held_after : List ℕ → List Round → List Lock → List ℕ
held_after held [] last = held ++ buffers_of last
held_after held (r ∷ rs) last = held_after [] rs last

-- the first lock of the list is of this buffer
abbrev pub BeginsWith : ℕ → List Lock → Type 0
BeginsWith b [] = ⊥
BeginsWith b (l ∷ ls) = l.buffer ≡ b

abbrev pub first_locks : List Round → List Lock → List Lock
first_locks [] last = last
first_locks (r ∷ rs) last = r.locks

-- one who holds these waits for younger holders alone, but for any while it holds nothing
abbrev pub MayWaitFor : ℕ → List ℕ → List ℕ → Type 0
MayWaitFor ticket held waited = 0 < length held → (h : ℕ) → In h waited → ticket < h

-- the locks of a round that begins with these buffers held: each is of a buffer that the job declares, and that is
-- not held yet
abbrev pub IsRound : Draft → ℕ → List ℕ → List Lock → Type 0
IsRound job ticket held [] = Unit {0}
IsRound job ticket held (l ∷ ls) = Declares job l.buffer × (In l.buffer held → ⊥) × MayWaitFor ticket held l.waited × IsRound job ticket (held ++ l.buffer ∷ []) ls

-- who holds these is told to back off: by an older holder of a buffer that the job declares, behind younger ones
pub record IsGivenUp (job : Draft) (ticket : ℕ) (held : List ℕ) (r : Round) : Type 0 where
  pub declared : Declares job r.contended
  pub free : In r.contended held → ⊥
  pub holds : 0 < length held
  pub waited : (h : ℕ) → In h r.waited → ticket < h
  pub older : r.older < ticket

-- rounds of one who holds these at first. Each but the last is given up, and the next begins with nothing held, by
-- the lock of the contended buffer
abbrev pub TakesAll : Draft → ℕ → List ℕ → List Round → List Lock → Type 0
TakesAll job ticket held [] last = IsRound job ticket held last
TakesAll job ticket held (r ∷ rs) last =
    IsRound job ticket held r.locks × IsGivenUp job ticket (held ++ buffers_of r.locks) r × BeginsWith r.contended (first_locks rs last) × TakesAll job ticket [] rs last
