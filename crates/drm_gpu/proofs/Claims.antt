-- What a submission shows of the locks that its caller takes.
use Rattle.std.proofs.Common.{◌≡◌, ◌<◌, ℕ, List, [], ◌∷◌, ◌++◌, length, map, refl, sym, ap, ◌∙◌, subst, ⊎_elim, inl, inr, append-nil, append_assoc, arith, Result, Ok, Err}
use mathlib.Core.List.{map-append}
use Rattle.std.specs.Prelude.{true, false}
use Rattle.std.proofs.lemmas.List.{length-map}
use Rattle.ww_lock.proofs.Lists.{at_in, in_last, in_left}
use Rattle.ww_lock.specs.declared.locks.TryLockError.{TryLockError}
use Rattle.ww_lock.specs.declared.locks.TryLockError.TheVariants.{Sealed, Already, Older, Younger}
use Rattle.ww_lock.specs.declared.locks.LockError.{LockError}
use Rattle.ww_lock.specs.declared.locks.LockError.TheVariants as lock
use Rattle.ww_lock.specs.Acquiring.{HoldsOutside, AnswersTry, AnswersLock, Claimed, view}
use Rattle.ww_lock.specs.Acquiring.{MayWait as lock_may_wait}
use Rattle.ww_lock.specs.Held.{HasAt, Lacks}
use Rattle.ww_lock.specs.Rule.{In}
use Rattle.ww_lock.specs.Steps.{number_of}
use Rattle.drm_job.specs.declared.Draft.{Draft}
use Rattle.drm_resv.specs.Reservation.{Reservation, WithRoom}
use Rattle.drm_state.specs.Held.{kept_of}
use Rattle.drm_state.specs.Reservation.{Fits}
use Rattle.drm_gpu.specs.Passes.{Seeing, GpuState, PassState, FitsDevice, Knows, Seated, last_of, pass_of}
use Rattle.drm_gpu.specs.Rounds.{Declares, IsGivenUp, IsRound, Lock, Round, TakesAll, all_claims, all_met, buffers_of, claims_of, held_after, holders_of, met_last, met_of}
use Rattle.drm_gpu.specs.Submissions.{Submission, DeviceAcquire, BacksOff, HasTaken, Holding, HoldsNoMore, LocksAll, LocksFirst, LocksOn, TriesLock, MayWait, Claims, Locks, claims_one, numbers_of, submission_of}
use Rattle.drm_gpu.proofs.Chains.{knows_same}
use Rattle.drm_gpu.proofs.Holders.{in_kept, in_kept_of, still_holds}
use Rattle.drm_gpu.proofs.Lists.{lacks_same}
use Rattle.drm_gpu.proofs.Rounds.{buffers_append, claims_append, claims_anew, claims_more, held_anew, held_declared, held_more, holders_append, met_anew, met_append, met_more, round_append, takes_anew, takes_more}

-- ---- the caller goes on to hold

-- it has claimed one more
claimed_one : (gpu : GpuState) (b : ℕ) (x : WithRoom) (a a' : DeviceAcquire) → Holding gpu a → HoldsOutside gpu.home a' → Lacks b a.seat.held.items → (view a').pivot ≡ (view a).pivot → (view a').task ≡ (view a).task
    → (view a').lock.owes ≡ (view a).lock.owes ++ (b, x) ∷ [] → a'.seat.held.items ≡ a.seat.held.items ++ (b, x) ∷ [] → Holding gpu a'
claimed_one gpu b x a a' k h lacks pivot task owes held = record {
  seat = record {
    sits = h.sits;
    knows = knows_same gpu.spec (view a) (view a') k.seat.knows pivot;
    owed = λ d y w i j p f.
        ⊎_elim (λ old. ⊎_elim (λ kept. k.seat.owed d y w old kept p f) (λ new. absurd (lacks_same b (view a).lock.owes a.seat.held.items k.seat.sits.keys lacks y (subst (λ n. In (n, y) (view a).lock.owes) (ap (λ q. q.0) new) old)))
        (in_last (d, w) (b, x) a.seat.held.items (subst (In (d, w)) held j)))
        (λ new. ⊎_elim (λ kept. absurd (lacks w (subst (λ n. In (n, w) a.seat.held.items) (ap (λ q. q.0) new) kept))) (λ also. subst (λ (r : WithRoom). FitsDevice d p r) (ap (λ q. q.1) new ∙ sym (ap (λ q. q.1) also)) f)
        (in_last (d, w) (b, x) a.seat.held.items (subst (In (d, w)) held j)))
        (in_last (d, y) (b, x) (view a).lock.owes (subst (In (d, y)) owes i));
  };
  own = h.own;
  idle = task ∙ k.idle;
}

abbrev IsOn : GpuState → DeviceAcquire → DeviceAcquire → Type 0
IsOn gpu a a' = Holding gpu a' × (a'.sealed ≡ a.sealed)

same_on : (gpu : GpuState) (a a' : DeviceAcquire) → Holding gpu a → a' ≡ a → IsOn gpu a a'
same_on gpu a a' k e = (subst (Holding gpu) (sym e) k, ap (λ (z : DeviceAcquire). z.sealed) e)

pub claimed : (gpu : GpuState) (b : ℕ) (a a' : DeviceAcquire) → Holding gpu a → HoldsOutside gpu.home a' → Claimed b a a' → IsOn gpu a a'
claimed gpu b a a' k h t = let v = t.3.3 in
    (claimed_one gpu b t.3.0 a a' k h t.1 (ap (λ (z : Seeing). z.pivot) v) (ap (λ (z : Seeing). z.task) v) (ap (λ (z : Seeing). z.lock.owes) v) t.3.4, t.2.1)

pub tried : (gpu : GpuState) (b : ℕ) (a a' : DeviceAcquire) (r : Result (Unit {0}) TryLockError) → Holding gpu a → HoldsOutside gpu.home a' → AnswersTry b a a' r → IsOn gpu a a'
tried gpu b a a' (Ok u) k h t = let v = t.3.1 in
    (claimed_one gpu b t.3.0 a a' k h t.1 (ap (λ (z : Seeing). z.pivot) v) (ap (λ (z : Seeing). z.task) v) (ap (λ (z : Seeing). z.lock.owes) v) t.3.2, t.2.1)
tried gpu b a a' (Err Sealed) k h t = same_on gpu a a' k t.1
tried gpu b a a' (Err Already) k h t = same_on gpu a a' k t.2
tried gpu b a a' (Err (Older n)) k h t = let v = t.4 in (still_holds gpu a a' k h (ap (λ (z : Seeing). z.pivot) v) (ap (λ (z : Seeing). z.task) v) (ap (λ (z : Seeing). z.lock.owes) v) t.5, t.2.1)
tried gpu b a a' (Err (Younger n)) k h t = let v = t.4 in (still_holds gpu a a' k h (ap (λ (z : Seeing). z.pivot) v) (ap (λ (z : Seeing). z.task) v) (ap (λ (z : Seeing). z.lock.owes) v) t.5, t.2.1)

pub locked : (gpu : GpuState) (b : ℕ) (a a' : DeviceAcquire) (r : Result (Unit {0}) LockError) → Holding gpu a → HoldsOutside gpu.home a' → AnswersLock b a a' r → IsOn gpu a a'
locked gpu b a a' (Ok u) k h t = claimed gpu b a a' k h t
locked gpu b a a' (Err lock.Sealed) k h t = same_on gpu a a' k t.1
locked gpu b a a' (Err lock.Already) k h t = same_on gpu a a' k t.2
locked gpu b a a' (Err (lock.Backoff n)) k h t = let w = t.4.2 in
    (still_holds gpu a a' k h (ap (λ (z : Seeing). z.pivot) w.2) (ap (λ (z : Seeing). z.task) w.2) (ap (λ (z : Seeing). z.lock.owes) w.2) w.1, w.0.1)

-- ---- what its submission shows

kept_append : (xs ys : List (ℕ × WithRoom)) → kept_of (xs ++ ys) ≡ kept_of xs ++ kept_of ys
kept_append [] ys = refl
kept_append (x ∷ xs) ys = ap (λ l. (x.0, x.1.kept) ∷ l) (kept_append xs ys)

lacks_kept : (b : ℕ) (xs : List (ℕ × WithRoom)) → Lacks b xs → Lacks b (kept_of xs)
lacks_kept b xs lacks y h = let r = in_kept b y xs h in lacks r.0 r.1

has_kept : (b i : ℕ) (xs : List (ℕ × WithRoom)) → HasAt b i xs → (x : Reservation) × In (b, x) (kept_of xs)
has_kept b i xs h = (h.0.kept, in_kept_of b h.0 xs (at_in xs i (b, h.0) h.1))

pub kept_none : (xs : List (ℕ × WithRoom)) → kept_of xs ≡ [] → xs ≡ []
kept_none [] e = refl
kept_none (x ∷ xs) e = absurd (cc (e))

abbrev pub made : PassState → ℕ → Draft → List (ℕ × Reservation) → Submission
made p t job xs = record { pass = p; ticket = t; job = job; held = xs }

pub parts : (job : Draft) (p q : PassState) (t u : ℕ) (xs ys : List (ℕ × Reservation)) → p ≡ q → t ≡ u → xs ≡ ys → made p t job xs ≡ made q u job ys
parts job p q t u xs ys e f g = λ i. made (e i) (f i) job (g i)

module _ (gpu : GpuState) (job : Draft) (b : ℕ) (a a' : DeviceAcquire) (k : Holding gpu a) (open_is : a.sealed ≡ false) where
  abbrev old : Submission
  old = submission_of gpu.home job a

  abbrev new : Submission
  new = submission_of gpu.home job a'

  not_sealed : a.sealed ≡ true → ⊥
  not_sealed e = let never : false ≡ true = sym open_is ∙ e in absurd (cc (never))

  -- as many are held with their room as without
  same_count : length (kept_of a.seat.held.items) ≡ length a.seat.held.items
  same_count = length-map a.seat.held.items (λ (h : ℕ × WithRoom). (h.0, h.1.kept))

  may_wait : (ms : List (ℕ × ℕ)) → lock_may_wait b a ms → MayWait b old ms
  may_wait ms w c h i = ((w c h i).0, λ some. (w c h i).1 (subst (λ n. 0 < n) same_count some))

  pub shows_claimed : Claimed b a a' → Claims b old new
  shows_claimed t =
      let x = t.3.0 in
      let ms = t.3.1 in (
        lacks_kept b a.seat.held.items t.1,
        (
          x.kept,
          ms,
          may_wait ms t.3.2,
          parts job (pass_of gpu.home (view a')) (record old.pass { had = old.pass.had ++ (b, old.ticket) ∷ []; met = old.pass.met ++ ms }) a'.ticket a.ticket (kept_of a'.seat.held.items) (old.held ++ (b, x.kept) ∷ [])
              (ap (λ (z : Seeing). pass_of gpu.home z) t.3.3 ∙ ap (λ n. record old.pass { had = old.pass.had ++ (b, n) ∷ []; met = old.pass.met ++ ms }) k.own.drawn)
              t.2.0 (ap (λ hs. kept_of hs) t.3.4 ∙ kept_append a.seat.held.items ((b, x) ∷ [])),
        ),
      )

  pub shows_tried : (r : Result (Unit {0}) TryLockError) → AnswersTry b a a' r → TriesLock b old new r
  shows_tried (Ok u) t =
      let x = t.3.0 in (
        lacks_kept b a.seat.held.items t.1,
        (
          x.kept,
          parts job (pass_of gpu.home (view a')) (record old.pass { had = old.pass.had ++ (b, old.ticket) ∷ [] }) a'.ticket a.ticket (kept_of a'.seat.held.items) (old.held ++ (b, x.kept) ∷ [])
              (ap (λ (z : Seeing). pass_of gpu.home z) t.3.1 ∙ ap (λ n. record old.pass { had = old.pass.had ++ (b, n) ∷ [] }) k.own.drawn)
              t.2.0 (ap (λ hs. kept_of hs) t.3.2 ∙ kept_append a.seat.held.items ((b, x) ∷ [])),
        ),
      )
  shows_tried (Err Sealed) t = not_sealed t.0
  shows_tried (Err Already) t = (has_kept b t.1.0 a.seat.held.items t.1.1, ap (λ (z : DeviceAcquire). submission_of gpu.home job z) t.2)
  shows_tried (Err (Older h)) t = (
    lacks_kept b a.seat.held.items t.1,
    t.3,
    parts job (pass_of gpu.home (view a')) (record old.pass { met = old.pass.met ++ (b, h) ∷ [] }) a'.ticket a.ticket (kept_of a'.seat.held.items) old.held
        (ap (λ (z : Seeing). pass_of gpu.home z) t.4) t.2.0 (ap (λ l. kept_of l.items) t.5),
  )
  shows_tried (Err (Younger h)) t = (
    lacks_kept b a.seat.held.items t.1,
    t.3,
    parts job (pass_of gpu.home (view a')) (record old.pass { met = old.pass.met ++ (b, h) ∷ [] }) a'.ticket a.ticket (kept_of a'.seat.held.items) old.held
        (ap (λ (z : Seeing). pass_of gpu.home z) t.4) t.2.0 (ap (λ l. kept_of l.items) t.5),
  )

  pub shows_locked : (r : Result (Unit {0}) LockError) → AnswersLock b a a' r → Locks b old new r
  shows_locked (Ok u) t = shows_claimed t
  shows_locked (Err lock.Sealed) t = not_sealed t.0
  shows_locked (Err lock.Already) t = (has_kept b t.1.0 a.seat.held.items t.1.1, ap (λ (z : DeviceAcquire). submission_of gpu.home job z) t.2)
  shows_locked (Err (lock.Backoff h)) t =
      let ms = t.4.0 in
      let w = t.4.2 in (
        lacks_kept b a.seat.held.items t.1,
        t.2,
        subst (λ n. 0 < n) (sym same_count) t.3,
        (
          ms,
          may_wait ms t.4.1,
          parts job (pass_of gpu.home (view a')) (record old.pass { met = old.pass.met ++ (ms ++ (b, h) ∷ []) }) a'.ticket a.ticket (kept_of a'.seat.held.items) old.held
              (ap (λ (z : Seeing). pass_of gpu.home z) w.2) w.0.0 (ap (λ l. kept_of l.items) w.1),
        ),
      )

-- ---- what the pass notes of the tries

same_lists : (p : PassState) (xs xs' ys ys' : List (ℕ × ℕ)) → xs ≡ xs' → ys ≡ ys' → record p { had = xs; met = ys } ≡ record p { had = xs'; met = ys' }
same_lists p xs xs' ys ys' e f = λ i. record p { had = e i; met = f i }

-- the pass with so many claims and holders more
abbrev more : List (ℕ × ℕ) → List (ℕ × ℕ) → PassState → PassState
more xs ys p = record p { had = p.had ++ xs; met = p.met ++ ys }

more_none : (p : PassState) → p ≡ more [] [] p
more_none p = same_lists p p.had (p.had ++ []) p.met (p.met ++ []) (sym (append-nil p.had)) (sym (append-nil p.met))

more_twice : (p : PassState) (xs ys xs' ys' : List (ℕ × ℕ)) → more xs' ys' (more xs ys p) ≡ more (xs ++ xs') (ys ++ ys') p
more_twice p xs ys xs' ys' = same_lists p (p.had ++ xs ++ xs') (p.had ++ (xs ++ xs')) (p.met ++ ys ++ ys') (p.met ++ (ys ++ ys')) (append_assoc p.had xs xs') (append_assoc p.met ys ys')

more_then : (p q r : PassState) (xs ys xs' ys' : List (ℕ × ℕ)) → q ≡ more xs ys p → r ≡ more xs' ys' q → r ≡ more (xs ++ xs') (ys ++ ys') p
more_then p q r xs ys xs' ys' one two = two ∙ (ap (more xs' ys') one ∙ more_twice p xs ys xs' ys')

more_same : (p : PassState) (xs xs' ys ys' : List (ℕ × ℕ)) → xs ≡ xs' → ys ≡ ys' → more xs ys p ≡ more xs' ys' p
more_same p xs xs' ys ys' e f = λ i. more (e i) (f i) p

-- the holders that tries for one buffer found
abbrev holders : List (ℕ × ℕ) → List ℕ
holders [] = []
holders (m ∷ ms) = m.1 ∷ holders ms

all_of_one : (b : ℕ) (ms : List (ℕ × ℕ)) → ((c h : ℕ) → In (c, h) ms → c ≡ b) → ms ≡ holders_of b (holders ms)
all_of_one b [] one = refl
all_of_one b (m ∷ ms) one = λ i. (one m.0 m.1 (inl refl) i, m.1) ∷ all_of_one b ms (λ c h t. one c h (inr t)) i

in_holders : (h : ℕ) (ms : List (ℕ × ℕ)) → In h (holders ms) → (c : ℕ) × In (c, h) ms
in_holders h [] t = absurd t
in_holders h (m ∷ ms) t = ⊎_elim (λ e. (m.0, inl (λ i. (m.0, e i)))) (λ u. let r = in_holders h ms u in (r.0, inr r.1)) t

-- ---- the buffers that are held

pub in_numbers : {A : Type 0} (b : ℕ) (xs : List (ℕ × A)) → In b (map number_of xs) → (y : A) × In (b, y) xs
in_numbers b [] h = absurd h
in_numbers b (x ∷ xs) h = ⊎_elim (λ e. (x.1, inl (λ i. (e i, x.1)))) (λ t. let r = in_numbers b xs t in (r.0, inr r.1)) h

pub numbers_in : {A : Type 0} (b : ℕ) (y : A) (xs : List (ℕ × A)) → In (b, y) xs → In b (map number_of xs)
numbers_in b y [] h = absurd h
numbers_in b y (x ∷ xs) h = ⊎_elim (λ e. inl (ap (λ q. q.0) e)) (λ t. inr (numbers_in b y xs t)) h

lacks_number : (b : ℕ) (xs : List (ℕ × WithRoom)) → Lacks b xs → In b (map number_of xs) → ⊥
lacks_number b xs lacks h = let y = in_numbers b xs h in lacks y.0 y.1

some_held : (a : DeviceAcquire) → 0 < length (numbers_of a) → 0 < length a.seat.held.items
some_held a h = subst (λ n. 0 < n) (length-map a.seat.held.items (number_of {A = ℕ} {B = WithRoom})) h

-- ---- one lock

pub on_itself : (gpu : GpuState) (job : Draft) (a : DeviceAcquire) → Holding gpu a → LocksOn gpu job a a
on_itself gpu job a k = record {
  locks = [];
  holding = k;
  ticket = refl;
  sealed = refl;
  round = tt;
  held = sym (append-nil (numbers_of a));
  had = more_none (pass_of gpu.home (view a));
}

claimed_pass : (gpu : GpuState) (b : ℕ) (a a' : DeviceAcquire) → Holding gpu a → (t : Claimed b a a') → pass_of gpu.home (view a') ≡ claims_one a.ticket b (holders t.3.1) (pass_of gpu.home (view a))
claimed_pass gpu b a a' k t =
    let p = pass_of gpu.home (view a) in
    let ms = t.3.1 in
    ap (λ (z : Seeing). pass_of gpu.home z) t.3.3
    ∙ (ap (λ n. record p { had = p.had ++ (b, n) ∷ []; met = p.met ++ ms }) k.own.drawn
    ∙ ap (λ l. record p { had = p.had ++ (b, a.ticket) ∷ []; met = p.met ++ l }) (all_of_one b ms (λ c h i. (t.3.2 c h i).0)))

pub on_claimed : (gpu : GpuState) (job : Draft) (b : ℕ) (a a' : DeviceAcquire) → Holding gpu a → HoldsOutside gpu.home a' → Declares job b → Claimed b a a' → LocksOn gpu job a a'
on_claimed gpu job b a a' k h declared t =
    let ms = t.3.1 in record {
      locks = record { buffer = b; waited = holders ms } ∷ [];
      holding = (claimed gpu b a a' k h t).0;
      ticket = t.2.0;
      sealed = t.2.1;
      round = (declared, lacks_number b a.seat.held.items t.1, (λ some n i. let m = in_holders n ms i in (t.3.2 m.0 n m.1).1 (some_held a some)), tt);
      held = ap (map number_of) t.3.4 ∙ map-append number_of a.seat.held.items ((b, t.3.0) ∷ []);
      had = claimed_pass gpu b a a' k t
          ∙ more_same (pass_of gpu.home (view a)) ((b, a.ticket) ∷ []) ((b, a.ticket) ∷ []) (holders_of b (holders ms)) (holders_of b (holders ms) ++ []) refl (sym (append-nil (holders_of b (holders ms))));
    }

pub first_claimed : (gpu : GpuState) (b : ℕ) (a a' : DeviceAcquire) → Holding gpu a → HoldsOutside gpu.home a' → a.seat.held.items ≡ [] → Claimed b a a' → LocksFirst gpu b a a'
first_claimed gpu b a a' k h none t = record {
  waited = holders t.3.1;
  holding = (claimed gpu b a a' k h t).0;
  ticket = t.2.0;
  sealed = t.2.1;
  held = (t.3.0, t.3.4 ∙ ap (λ l. l ++ (b, t.3.0) ∷ []) none);
  had = claimed_pass gpu b a a' k t;
}

pub held_already : (b : ℕ) (a a' : DeviceAcquire) → AnswersLock b a a' (Err lock.Already) → In b (numbers_of a')
held_already b a a' t = subst (λ (z : DeviceAcquire). In b (numbers_of z)) (sym t.2) (numbers_in b t.1.1.0 a.seat.held.items (at_in a.seat.held.items t.1.0 (b, t.1.1.0) t.1.1.1))

pub on_already : (gpu : GpuState) (job : Draft) (b : ℕ) (a a' : DeviceAcquire) → Holding gpu a → AnswersLock b a a' (Err lock.Already) → LocksOn gpu job a a'
on_already gpu job b a a' k t = subst (LocksOn gpu job a) (sym t.2) (on_itself gpu job a k)

pub off_told : (gpu : GpuState) (job : Draft) (b n : ℕ) (a a' : DeviceAcquire) → Holding gpu a → HoldsOutside gpu.home a' → Declares job b → AnswersLock b a a' (Err (lock.Backoff n)) → BacksOff gpu job b a a'
off_told gpu job b n a a' k h declared t =
    let ms = t.4.0 in
    let p = pass_of gpu.home (view a) in
    let same : ms ++ (b, n) ∷ [] ≡ holders_of b (holders ms ++ n ∷ []) =
    ap (λ l. l ++ (b, n) ∷ []) (all_of_one b ms (λ c h i. (t.4.1 c h i).0)) ∙ sym (holders_append b (holders ms) (n ∷ [])) in record {
      given = record { locks = []; contended = b; waited = holders ms; older = n };
      contended = refl;
      holding = (locked gpu b a a' (Err (lock.Backoff n)) k h t).0;
      ticket = t.4.2.0.0;
      sealed = t.4.2.0.1;
      round = tt;
      up = subst (λ l. IsGivenUp job a.ticket l (record { locks = []; contended = b; waited = holders ms; older = n })) (sym (append-nil (numbers_of a))) (record {
        declared = declared;
        free = lacks_number b a.seat.held.items t.1;
        holds = subst (λ n. 0 < n) (sym (length-map a.seat.held.items (number_of {A = ℕ} {B = WithRoom}))) t.3;
        waited = λ m i. let c = in_holders m ms i in (t.4.1 c.0 m c.1).1 t.3;
        older = t.2;
      });
      had = ap (λ (z : Seeing). pass_of gpu.home z) t.4.2.2 ∙ same_lists p p.had (p.had ++ []) (p.met ++ (ms ++ (b, n) ∷ [])) (p.met ++ holders_of b (holders ms ++ n ∷ [])) (sym (append-nil p.had)) (ap (λ l. p.met ++ l) same);
    }

-- ---- one after another

pub on_trans : (gpu : GpuState) (job : Draft) (a b c : DeviceAcquire) → LocksOn gpu job a b → LocksOn gpu job b c → LocksOn gpu job a c
on_trans gpu job a b c x y =
    let p = pass_of gpu.home (view a) in record {
      locks = x.locks ++ y.locks;
      holding = y.holding;
      ticket = y.ticket ∙ x.ticket;
      sealed = y.sealed ∙ x.sealed;
      round = round_append job a.ticket (numbers_of a) x.locks y.locks x.round (subst (λ (z : ℕ × List ℕ). IsRound job z.0 z.1 y.locks) (λ i. (x.ticket i, x.held i)) y.round);
      held = y.held ∙ (ap (λ l. l ++ buffers_of y.locks) x.held ∙ (append_assoc (numbers_of a) (buffers_of x.locks) (buffers_of y.locks) ∙ ap (λ l. numbers_of a ++ l) (sym (buffers_append x.locks y.locks))));
      had = more_then p (pass_of gpu.home (view b)) (pass_of gpu.home (view c)) (claims_of a.ticket x.locks) (met_of x.locks) (claims_of b.ticket y.locks) (met_of y.locks) x.had y.had
          ∙ more_same p (claims_of a.ticket x.locks ++ claims_of b.ticket y.locks) (claims_of a.ticket (x.locks ++ y.locks)) (met_of x.locks ++ met_of y.locks) (met_of (x.locks ++ y.locks))
          (ap (λ n. claims_of a.ticket x.locks ++ claims_of n y.locks) x.ticket ∙ sym (claims_append a.ticket x.locks y.locks)) (sym (met_append x.locks y.locks));
    }

-- what is held is held on
pub holds_on : (gpu : GpuState) (job : Draft) (n : ℕ) (a b : DeviceAcquire) → LocksOn gpu job a b → In n (numbers_of a) → In n (numbers_of b)
holds_on gpu job n a b x h = subst (In n) (sym x.held) (in_left n (numbers_of a) (buffers_of x.locks) h)

pub off_trans : (gpu : GpuState) (job : Draft) (n : ℕ) (a b c : DeviceAcquire) → LocksOn gpu job a b → BacksOff gpu job n b c → BacksOff gpu job n a c
off_trans gpu job n a b c x y =
    let p = pass_of gpu.home (view a) in
    let r = y.given in
    let ls = x.locks ++ r.locks in
    let held : numbers_of b ++ buffers_of r.locks ≡ numbers_of a ++ buffers_of ls =
    ap (λ l. l ++ buffers_of r.locks) x.held ∙ (append_assoc (numbers_of a) (buffers_of x.locks) (buffers_of r.locks) ∙ ap (λ l. numbers_of a ++ l) (sym (buffers_append x.locks r.locks))) in
    let up : IsGivenUp job a.ticket (numbers_of a ++ buffers_of ls) r = subst (λ (z : ℕ × List ℕ). IsGivenUp job z.0 z.1 r) (λ i. (x.ticket i, held i)) y.up in record {
      given = record r { locks = ls };
      contended = y.contended;
      holding = y.holding;
      ticket = y.ticket ∙ x.ticket;
      sealed = y.sealed ∙ x.sealed;
      round = round_append job a.ticket (numbers_of a) x.locks r.locks x.round (subst (λ (z : ℕ × List ℕ). IsRound job z.0 z.1 r.locks) (λ i. (x.ticket i, x.held i)) y.round);
      up = record { declared = up.declared; free = up.free; holds = up.holds; waited = up.waited; older = up.older };
      had = more_then p (pass_of gpu.home (view b)) (pass_of gpu.home (view c)) (claims_of a.ticket x.locks) (met_of x.locks) (claims_of b.ticket r.locks) (met_of r.locks ++ met_last r) x.had y.had
          ∙ more_same p (claims_of a.ticket x.locks ++ claims_of b.ticket r.locks) (claims_of a.ticket ls) (met_of x.locks ++ (met_of r.locks ++ met_last r)) (met_of ls ++ met_last r)
          (ap (λ n. claims_of a.ticket x.locks ++ claims_of n r.locks) x.ticket ∙ sym (claims_append a.ticket x.locks r.locks))
          (sym (append_assoc (met_of x.locks) (met_of r.locks) (met_last r)) ∙ ap (λ l. l ++ met_last r) (sym (met_append x.locks r.locks)));
    }

pub taken_itself : (gpu : GpuState) (job : Draft) (a : DeviceAcquire) → Holding gpu a → HasTaken gpu job a a
taken_itself gpu job a k = record {
  rounds = [];
  last = [];
  holding = k;
  ticket = refl;
  sealed = refl;
  takes = tt;
  held = sym (append-nil (numbers_of a));
  had = more_none (pass_of gpu.home (view a));
}

-- more locks in the last round
pub taken_more : (gpu : GpuState) (job : Draft) (a b c : DeviceAcquire) → HasTaken gpu job a b → LocksOn gpu job b c → HasTaken gpu job a c
taken_more gpu job a b c x y =
    let p = pass_of gpu.home (view a) in record {
      rounds = x.rounds;
      last = x.last ++ y.locks;
      holding = y.holding;
      ticket = y.ticket ∙ x.ticket;
      sealed = y.sealed ∙ x.sealed;
      takes = takes_more job a.ticket (numbers_of a) x.rounds x.last y.locks x.takes (subst (λ (z : ℕ × List ℕ). IsRound job z.0 z.1 y.locks) (λ i. (x.ticket i, x.held i)) y.round);
      held = y.held ∙ (ap (λ l. l ++ buffers_of y.locks) x.held ∙ sym (held_more (numbers_of a) x.rounds x.last y.locks));
      had = more_then p (pass_of gpu.home (view b)) (pass_of gpu.home (view c)) (all_claims a.ticket x.rounds x.last) (all_met x.rounds x.last) (claims_of b.ticket y.locks) (met_of y.locks) x.had y.had
          ∙ more_same p (all_claims a.ticket x.rounds x.last ++ claims_of b.ticket y.locks) (all_claims a.ticket x.rounds (x.last ++ y.locks)) (all_met x.rounds x.last ++ met_of y.locks) (all_met x.rounds (x.last ++ y.locks))
          (ap (λ n. all_claims a.ticket x.rounds x.last ++ claims_of n y.locks) x.ticket ∙ sym (claims_more a.ticket x.rounds x.last y.locks)) (sym (met_more x.rounds x.last y.locks));
    }

-- a round that is given up, with all that is held, and the first lock of the next
pub taken_anew : (gpu : GpuState) (job : Draft) (n : ℕ) (a b c d e : DeviceAcquire) → HasTaken gpu job a b → BacksOff gpu job n b c → d.ticket ≡ c.ticket → d.sealed ≡ c.sealed → pass_of gpu.home (view d) ≡ pass_of gpu.home (view c)
    → LocksFirst gpu n d e → HasTaken gpu job a e
taken_anew gpu job n a b c d e x y ticket sealed pass z =
    let p = pass_of gpu.home (view a) in
    let r = y.given in
    let ls = x.last ++ r.locks in
    let g : Round = record r { locks = ls } in
    let next : List Lock = record { buffer = n; waited = z.waited } ∷ [] in
    let same : d.ticket ≡ a.ticket = ticket ∙ (y.ticket ∙ x.ticket) in
    let held : numbers_of b ++ buffers_of r.locks ≡ held_after (numbers_of a) x.rounds ls = ap (λ l. l ++ buffers_of r.locks) x.held ∙ sym (held_more (numbers_of a) x.rounds x.last r.locks) in
    let up : IsGivenUp job a.ticket (held_after (numbers_of a) x.rounds ls) r = subst (λ (z : ℕ × List ℕ). IsGivenUp job z.0 z.1 r) (λ i. (x.ticket i, held i)) y.up in
    let first : pass_of gpu.home (view c) ≡ more (all_claims a.ticket x.rounds ls) (all_met x.rounds ls ++ met_last r) p =
    more_then p (pass_of gpu.home (view b)) (pass_of gpu.home (view c)) (all_claims a.ticket x.rounds x.last) (all_met x.rounds x.last) (claims_of b.ticket r.locks) (met_of r.locks ++ met_last r) x.had y.had
    ∙ more_same p (all_claims a.ticket x.rounds x.last ++ claims_of b.ticket r.locks) (all_claims a.ticket x.rounds ls) (all_met x.rounds x.last ++ (met_of r.locks ++ met_last r)) (all_met x.rounds ls ++ met_last r)
    (ap (λ m. all_claims a.ticket x.rounds x.last ++ claims_of m r.locks) x.ticket ∙ sym (claims_more a.ticket x.rounds x.last r.locks))
    (sym (append_assoc (all_met x.rounds x.last) (met_of r.locks) (met_last r)) ∙ ap (λ l. l ++ met_last r) (sym (met_more x.rounds x.last r.locks))) in record {
      rounds = x.rounds ++ g ∷ [];
      last = next;
      holding = z.holding;
      ticket = z.ticket ∙ same;
      sealed = z.sealed ∙ (sealed ∙ (y.sealed ∙ x.sealed));
      takes = takes_anew job a.ticket (numbers_of a) x.rounds g next
          (takes_more job a.ticket (numbers_of a) x.rounds x.last r.locks x.takes (subst (λ (z : ℕ × List ℕ). IsRound job z.0 z.1 r.locks) (λ i. (x.ticket i, x.held i)) y.round))
          (record { declared = up.declared; free = up.free; holds = up.holds; waited = up.waited; older = up.older })
          (sym y.contended) (subst (Declares job) y.contended up.declared, (λ never. never), (λ some. absurd (omega (arith, some))), tt);
      held = ap (map number_of) z.held.1 ∙ sym (held_anew (numbers_of a) x.rounds g next);
      had = more_then p (pass_of gpu.home (view d)) (pass_of gpu.home (view e)) (all_claims a.ticket x.rounds ls) (all_met x.rounds ls ++ met_last r) ((n, d.ticket) ∷ []) (holders_of n z.waited) (pass ∙ first) z.had
          ∙ more_same p (all_claims a.ticket x.rounds ls ++ (n, d.ticket) ∷ []) (all_claims a.ticket (x.rounds ++ g ∷ []) next) (all_met x.rounds ls ++ met_last r ++ holders_of n z.waited) (all_met (x.rounds ++ g ∷ []) next)
          (ap (λ m. all_claims a.ticket x.rounds ls ++ (n, m) ∷ []) same ∙ sym (claims_anew a.ticket x.rounds g next))
          (append_assoc (all_met x.rounds ls) (met_last r) (holders_of n z.waited) ∙ (ap (λ l. all_met x.rounds ls ++ (met_last r ++ l)) (sym (append-nil (holders_of n z.waited))) ∙ sym (met_anew x.rounds g next)));
    }

-- what its submission shows of the rounds
numbers_kept : (xs : List (ℕ × WithRoom)) → map number_of (kept_of xs) ≡ map number_of xs
numbers_kept [] = refl
numbers_kept (x ∷ xs) = ap (λ ns. x.0 ∷ ns) (numbers_kept xs)

pub shows_taken : (gpu : GpuState) (job : Draft) (a b : DeviceAcquire) → HasTaken gpu job a b → LocksAll (submission_of gpu.home job a) (submission_of gpu.home job b)
shows_taken gpu job a b x = record {
  rounds = x.rounds;
  last = x.last;
  job = refl;
  ticket = x.ticket;
  takes = subst (λ ns. TakesAll job a.ticket ns x.rounds x.last) (sym (numbers_kept a.seat.held.items)) x.takes;
  held = numbers_kept b.seat.held.items ∙ (x.held ∙ ap (λ ns. held_after ns x.rounds x.last) (sym (numbers_kept a.seat.held.items)));
  pass = x.had;
}

-- what is held behind the rounds is declared, or was held before
pub holds_no_more : (gpu : GpuState) (job : Draft) (a b : DeviceAcquire) → HasTaken gpu job a b → HoldsNoMore job a.seat.held.items b.seat.held.items
holds_no_more gpu job a b x n y h =
    ⊎_elim (λ declared. inl declared) (λ old. inr (in_numbers n a.seat.held.items old))
    (held_declared job a.ticket (numbers_of a) x.rounds x.last n x.takes (subst (In n) x.held (numbers_in n y b.seat.held.items h)))

pub no_more_kept : (job : Draft) (xs ys : List (ℕ × WithRoom)) → HoldsNoMore job xs ys → HoldsNoMore job (kept_of xs) (kept_of ys)
no_more_kept job xs ys p b x h =
    let r = in_kept b x ys h in ⊎_elim (λ declared. inl declared) (λ y. inr (y.0.kept, in_kept_of b y.0 xs y.1)) (p b r.0 r.1)

-- room was taken in what is held
pub room_taken : (gpu : GpuState) (a a' : DeviceAcquire) → Holding gpu a → HoldsOutside gpu.home a' → view a' ≡ view a → kept_of a'.seat.held.items ≡ kept_of a.seat.held.items → Holding gpu a'
room_taken gpu a a' k h v e = record {
  seat = record {
    sits = h.sits;
    knows = subst (λ (z : Seeing). Knows gpu.spec (last_of z) z) (sym v) k.seat.knows;
    owed = λ d y w i j p f.
        let r = in_kept d w.kept a.seat.held.items (subst (In (d, w.kept)) e (in_kept_of d w a'.seat.held.items j)) in
        subst (Fits d p.state.journal) r.2 (k.seat.owed d y r.0 (subst (λ (z : Seeing). In (d, y) z.lock.owes) v i) r.1 p f);
  };
  own = h.own;
  idle = ap (λ (z : Seeing). z.task) v ∙ k.idle;
}

-- one who locks no more goes on to hold
pub done_on : (gpu : GpuState) (a b : DeviceAcquire) → Holding gpu a → HoldsOutside gpu.home b → b ≡ record a { sealed = true } → Holding gpu b
done_on gpu a b k h e = record {
  seat = subst (λ (z : DeviceAcquire). Seated gpu z.seat) (sym e) k.seat;
  own = h.own;
  idle = ap (λ (z : DeviceAcquire). (view z).task) e ∙ k.idle;
}
