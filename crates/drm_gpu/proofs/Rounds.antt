-- Rounds of locks, one after another.
use Rattle.std.proofs.Common.{◌≡◌, ◌⊎◌, ℕ, List, [], ◌∷◌, ◌++◌, refl, sym, ap, ◌∙◌, subst, ⊎_elim, inl, inr, append-nil, append_assoc}
use Rattle.ww_lock.proofs.Lists.{in_both}
use Rattle.ww_lock.specs.Rule.{In}
use Rattle.drm_job.specs.declared.Draft.{Draft}
use Rattle.drm_gpu.specs.Rounds.{Lock, Round, buffers_of, claims_of, holders_of, met_last, met_of, all_claims, all_met, held_after, BeginsWith, Declares, IsRound, IsGivenUp, TakesAll}

-- ---- lists of locks that follow one another

pub buffers_append : (xs ys : List Lock) → buffers_of (xs ++ ys) ≡ buffers_of xs ++ buffers_of ys
buffers_append [] ys = refl
buffers_append (x ∷ xs) ys = ap (λ l. x.buffer ∷ l) (buffers_append xs ys)

pub claims_append : (t : ℕ) (xs ys : List Lock) → claims_of t (xs ++ ys) ≡ claims_of t xs ++ claims_of t ys
claims_append t [] ys = refl
claims_append t (x ∷ xs) ys = ap (λ l. (x.buffer, t) ∷ l) (claims_append t xs ys)

pub met_append : (xs ys : List Lock) → met_of (xs ++ ys) ≡ met_of xs ++ met_of ys
met_append [] ys = refl
met_append (x ∷ xs) ys = ap (λ l. holders_of x.buffer x.waited ++ l) (met_append xs ys) ∙ sym (append_assoc (holders_of x.buffer x.waited) (met_of xs) (met_of ys))

pub holders_append : (b : ℕ) (xs ys : List ℕ) → holders_of b (xs ++ ys) ≡ holders_of b xs ++ holders_of b ys
holders_append b [] ys = refl
holders_append b (x ∷ xs) ys = ap (λ l. (b, x) ∷ l) (holders_append b xs ys)

pub round_append : (job : Draft) (t : ℕ) (held : List ℕ) (xs ys : List Lock) → IsRound job t held xs → IsRound job t (held ++ buffers_of xs) ys → IsRound job t held (xs ++ ys)
round_append job t held [] ys one two = subst (λ h. IsRound job t h ys) (append-nil held) two
round_append job t held (x ∷ xs) ys one two =
    (one.0, one.1, one.2, round_append job t (held ++ x.buffer ∷ []) xs ys one.3 (subst (λ h. IsRound job t h ys) (sym (append_assoc held (x.buffer ∷ []) (buffers_of xs))) two))

begins_append : (b : ℕ) (xs ys : List Lock) → BeginsWith b xs → BeginsWith b (xs ++ ys)
begins_append b [] ys h = absurd h
begins_append b (x ∷ xs) ys h = h

-- ---- more locks in the last round

pub held_more : (held : List ℕ) (rs : List Round) (last ls : List Lock) → held_after held rs (last ++ ls) ≡ held_after held rs last ++ buffers_of ls
held_more held [] last ls = ap (λ l. held ++ l) (buffers_append last ls) ∙ sym (append_assoc held (buffers_of last) (buffers_of ls))
held_more held (r ∷ rs) last ls = held_more [] rs last ls

pub claims_more : (t : ℕ) (rs : List Round) (last ls : List Lock) → all_claims t rs (last ++ ls) ≡ all_claims t rs last ++ claims_of t ls
claims_more t [] last ls = claims_append t last ls
claims_more t (r ∷ rs) last ls = ap (λ l. claims_of t r.locks ++ l) (claims_more t rs last ls) ∙ sym (append_assoc (claims_of t r.locks) (all_claims t rs last) (claims_of t ls))

pub met_more : (rs : List Round) (last ls : List Lock) → all_met rs (last ++ ls) ≡ all_met rs last ++ met_of ls
met_more [] last ls = met_append last ls
met_more (r ∷ rs) last ls =
    ap (λ l. met_of r.locks ++ (met_last r ++ l)) (met_more rs last ls)
    ∙ (ap (λ l. met_of r.locks ++ l) (sym (append_assoc (met_last r) (all_met rs last) (met_of ls))) ∙ sym (append_assoc (met_of r.locks) (met_last r ++ all_met rs last) (met_of ls)))

pub takes_more : (job : Draft) (t : ℕ) (held : List ℕ) (rs : List Round) (last ls : List Lock) → TakesAll job t held rs last → IsRound job t (held_after held rs last) ls → TakesAll job t held rs (last ++ ls)
takes_more job t held [] last ls one two = round_append job t held last ls one two
takes_more job t held (r ∷ []) last ls one two = (one.0, one.1, begins_append r.contended last ls one.2, takes_more job t [] [] last ls one.3 two)
takes_more job t held (r ∷ (q ∷ rs)) last ls one two = (one.0, one.1, one.2, takes_more job t [] (q ∷ rs) last ls one.3 two)

-- ---- a round that is given up, and the next

pub held_anew : (held : List ℕ) (rs : List Round) (r : Round) (next : List Lock) → held_after held (rs ++ r ∷ []) next ≡ buffers_of next
held_anew held [] r next = refl
held_anew held (q ∷ rs) r next = held_anew [] rs r next

pub claims_anew : (t : ℕ) (rs : List Round) (r : Round) (next : List Lock) → all_claims t (rs ++ r ∷ []) next ≡ all_claims t rs r.locks ++ claims_of t next
claims_anew t [] r next = refl
claims_anew t (q ∷ rs) r next = ap (λ l. claims_of t q.locks ++ l) (claims_anew t rs r next) ∙ sym (append_assoc (claims_of t q.locks) (all_claims t rs r.locks) (claims_of t next))

pub met_anew : (rs : List Round) (r : Round) (next : List Lock) → all_met (rs ++ r ∷ []) next ≡ all_met rs r.locks ++ (met_last r ++ met_of next)
met_anew [] r next = refl
met_anew (q ∷ rs) r next =
    ap (λ l. met_of q.locks ++ (met_last q ++ l)) (met_anew rs r next)
    ∙ (ap (λ l. met_of q.locks ++ l) (sym (append_assoc (met_last q) (all_met rs r.locks) (met_last r ++ met_of next))) ∙ sym (append_assoc (met_of q.locks) (met_last q ++ all_met rs r.locks) (met_last r ++ met_of next)))

pub takes_anew : (job : Draft) (t : ℕ) (held : List ℕ) (rs : List Round) (r : Round) (next : List Lock) → TakesAll job t held rs r.locks → IsGivenUp job t (held_after held rs r.locks) r → BeginsWith r.contended next → IsRound job t [] next
    → TakesAll job t held (rs ++ r ∷ []) next
takes_anew job t held [] r next one up begins two = (one, up, begins, two)
takes_anew job t held (q ∷ []) r next one up begins two = (one.0, one.1, one.2, takes_anew job t [] [] r next one.3 up begins two)
takes_anew job t held (q ∷ (p ∷ rs)) r next one up begins two = (one.0, one.1, one.2, takes_anew job t [] (p ∷ rs) r next one.3 up begins two)

-- ---- what is held then is declared, or was held before

round_declared : (job : Draft) (t : ℕ) (held : List ℕ) (ls : List Lock) (b : ℕ) → IsRound job t held ls → In b (buffers_of ls) → Declares job b
round_declared job t held [] b is h = absurd h
round_declared job t held (l ∷ ls) b is h = ⊎_elim (λ e. subst (Declares job) (sym e) is.0) (λ more. round_declared job t (held ++ l.buffer ∷ []) ls b is.3 more) h

pub held_declared : (job : Draft) (t : ℕ) (held : List ℕ) (rs : List Round) (last : List Lock) (b : ℕ) → TakesAll job t held rs last → In b (held_after held rs last) → Declares job b ⊎ In b held
held_declared job t held [] last b is h = ⊎_elim (λ old. inr old) (λ new. inl (round_declared job t held last b is new)) (in_both b held (buffers_of last) h)
held_declared job t held (r ∷ rs) last b is h = ⊎_elim (λ d. inl d) (λ none. absurd none) (held_declared job t [] rs last b is.3 h)
