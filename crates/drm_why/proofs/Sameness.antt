-- A test of two reasons tells that they are one.
use Rattle.std.proofs.Common.{◌≡◌, ℕ, Bool, true, false, ◌&&◌, ◌==◌, Option, Some, None, refl, ap, subst, ◌∙◌}
use Rattle.std.specs.Prelude.{◌||◌}
use Rattle.std.proofs.lemmas.Bool.Decides.{Decides-eqb}
use Rattle.drm_types.specs.declared.access.Access.{Access}
use Rattle.drm_types.specs.declared.access.Access.TheVariants as access
use Rattle.drm_types.specs.declared.outcome.Outcome.{Outcome}
use Rattle.drm_types.specs.declared.outcome.Outcome.TheVariants as outcome
use Rattle.drm_reason.specs.declared.reason.How.{How}
use Rattle.drm_reason.specs.declared.reason.How.TheVariants as how
use Rattle.drm_reason.specs.declared.reason.Reason.{Reason}
use Rattle.drm_reason.specs.declared.reason.Reason.TheVariants as reason
use Rattle.drm_why.specs.Same.{same_access, same_behind, same_flag, same_how, same_outcome, same_reason}

both : (a b : Bool) → (a && b) ≡ true → (a ≡ true) × (b ≡ true)
both true b e = (refl, e)
both false b e = absurd (cc (e))

both_true : (a b : Bool) → a ≡ true → b ≡ true → (a && b) ≡ true
both_true true b e f = f
both_true false b e f = absurd (cc (e))

or_false : (a : Bool) → (a || false) ≡ true → a ≡ true
or_false true e = refl
or_false false e = absurd (cc (e))

or_true : (a : Bool) → a ≡ true → (a || false) ≡ true
or_true true e = refl
or_true false e = absurd (cc (e))

one_number : (a b : ℕ) → (a == b) ≡ true → a ≡ b
one_number a b e = (Decides-eqb a b).0 e

number_same : (a : ℕ) → (a == a) ≡ true
number_same a = (Decides-eqb a a).1 refl

one_access : (a b : Access) → same_access a b ≡ true → a ≡ b
one_access access.Read access.Read e = refl
one_access access.Write access.Write e = refl
one_access access.Hold access.Hold e = refl
one_access access.Move access.Move e = refl
one_access a b e = absurd (cc (e))

access_same : (a : Access) → same_access a a ≡ true
access_same access.Read = refl
access_same access.Write = refl
access_same access.Hold = refl
access_same access.Move = refl

one_outcome : (a b : Outcome) → same_outcome a b ≡ true → a ≡ b
one_outcome outcome.Good outcome.Good e = refl
one_outcome outcome.Cancelled outcome.Cancelled e = refl
one_outcome outcome.Stopped outcome.Stopped e = refl
one_outcome a b e = absurd (cc (e))

outcome_same : (a : Outcome) → same_outcome a a ≡ true
outcome_same outcome.Good = refl
outcome_same outcome.Cancelled = refl
outcome_same outcome.Stopped = refl

one_flag : (a b : Bool) → same_flag a b ≡ true → a ≡ b
one_flag true true e = refl
one_flag false false e = refl
one_flag a b e = absurd (cc (e))

flag_same : (a : Bool) → same_flag a a ≡ true
flag_same true = refl
flag_same false = refl

one_behind : (a b : Option ℕ) → same_behind a b ≡ true → a ≡ b
one_behind (Some a) (Some b) e = ap Some (one_number a b e)
one_behind None None e = refl
one_behind a b e = absurd (cc (e))

behind_same : (a : Option ℕ) → same_behind a a ≡ true
behind_same (Some a) = number_same a
behind_same None = refl

one_how : (a b : How) → same_how a b ≡ true → a ≡ b
one_how (how.Buffer a b c) (how.Buffer d f g) e =
    let all = both (a == d) (same_access b f && same_access c g) e in
    let rest = both (same_access b f) (same_access c g) all.1 in
    ap (λ (n : ℕ). how.Buffer n b c) (one_number a d all.0)
    ∙ (ap (λ (n : Access). how.Buffer d n c) (one_access b f rest.0) ∙ ap (λ (n : Access). how.Buffer d f n) (one_access c g rest.1))
one_how how.Named how.Named e = refl
one_how a b e = absurd (cc (e))

how_same : (a : How) → same_how a a ≡ true
how_same (how.Buffer a b c) =
    both_true (a == a) (same_access b b && same_access c c) (number_same a) (both_true (same_access b b) (same_access c c) (access_same b) (access_same c))
how_same how.Named = refl

-- two numbers of one reason
two_numbers : (of : ℕ → ℕ → Reason) (a b c d : ℕ) → ((a == c) && (b == d)) ≡ true → of a b ≡ of c d
two_numbers of a b c d e =
    let all = both (a == c) (b == d) e in ap (λ (n : ℕ). of n b) (one_number a c all.0) ∙ ap (λ (n : ℕ). of c n) (one_number b d all.1)

numbers_same : (a b : ℕ) → ((a == a) && (b == b)) ≡ true
numbers_same a b = both_true (a == a) (b == b) (number_same a) (number_same b)

pub one_reason : (a b : Reason) → same_reason a b ≡ true → a ≡ b
one_reason reason.NotArmed reason.NotArmed e = refl
one_reason (reason.Stopped a) (reason.Stopped b) e = ap reason.Stopped (one_behind a b e)
one_reason (reason.Ended a) (reason.Ended b) e = ap reason.Ended (one_outcome a b e)
one_reason (reason.BehindQueueHead a) (reason.BehindQueueHead b) e = ap reason.BehindQueueHead (one_number a b (or_false (a == b) e))
one_reason (reason.Waits a b c d) (reason.Waits f g h i) e =
    let all = both ((a == f) && same_how b g) ((c == h) && same_flag d i) (or_false (((a == f) && same_how b g) && ((c == h) && same_flag d i)) e) in
    let first = both (a == f) (same_how b g) all.0 in
    let second = both (c == h) (same_flag d i) all.1 in
    ap (λ (n : ℕ). reason.Waits n b c d) (one_number a f first.0)
    ∙ (ap (λ (n : How). reason.Waits f n c d) (one_how b g first.1)
    ∙ (ap (λ (n : ℕ). reason.Waits f g n d) (one_number c h second.0) ∙ ap (λ (n : Bool). reason.Waits f g h n) (one_flag d i second.1)))
one_reason (reason.BehindRingHead a b) (reason.BehindRingHead c d) e = two_numbers reason.BehindRingHead a b c d (or_false ((a == c) && (b == d)) e)
one_reason (reason.NoCredits a b c) (reason.NoCredits d f g) e =
    let all = both ((a == d) && (b == f)) (c == g) (or_false (((a == d) && (b == f)) && (c == g)) e) in
    two_numbers (λ m n. reason.NoCredits m n c) a b d f all.0 ∙ ap (λ (n : ℕ). reason.NoCredits d f n) (one_number c g all.1)
one_reason (reason.Next a) (reason.Next b) e = ap reason.Next (one_number a b (or_false (a == b) e))
one_reason (reason.Pending a b) (reason.Pending c d) e = two_numbers reason.Pending a b c d e
one_reason (reason.Runs a b) (reason.Runs c d) e = two_numbers reason.Runs a b c d e
one_reason (reason.Stalls a b) (reason.Stalls c d) e = two_numbers reason.Stalls a b c d e
one_reason (reason.Complete a) (reason.Complete b) e = ap reason.Complete (one_number a b e)
one_reason a b e = absurd (cc (e))

reason_same : (a : Reason) → same_reason a a ≡ true
reason_same reason.NotArmed = refl
reason_same (reason.Stopped a) = behind_same a
reason_same (reason.Ended a) = outcome_same a
reason_same (reason.BehindQueueHead a) = or_true (a == a) (number_same a)
reason_same (reason.Waits a b c d) =
    or_true (((a == a) && same_how b b) && ((c == c) && same_flag d d))
    (both_true ((a == a) && same_how b b) ((c == c) && same_flag d d)
    (both_true (a == a) (same_how b b) (number_same a) (how_same b)) (both_true (c == c) (same_flag d d) (number_same c) (flag_same d)))
reason_same (reason.BehindRingHead a b) = or_true ((a == a) && (b == b)) (numbers_same a b)
reason_same (reason.NoCredits a b c) =
    or_true (((a == a) && (b == b)) && (c == c)) (both_true ((a == a) && (b == b)) (c == c) (numbers_same a b) (number_same c))
reason_same (reason.Next a) = or_true (a == a) (number_same a)
reason_same (reason.Pending a b) = numbers_same a b
reason_same (reason.Runs a b) = numbers_same a b
reason_same (reason.Stalls a b) = numbers_same a b
reason_same (reason.Complete a) = number_same a

pub same_as_one : (a b : Reason) → a ≡ b → same_reason a b ≡ true
same_as_one a b e = subst (λ (r : Reason). same_reason a r ≡ true) e (reason_same a)
