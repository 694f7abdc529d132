-- A board is under its rule when it is made.
use Rattle.std.proofs.Common.{◌≡◌, ℕ, ◌+◌, ◌<◌, zero, suc, List, [], ◌∷◌, map, length, get_or, sym, refl, ap, ◌∙◌, subst, ⊎_elim, inl, ◌⊎◌, true, arith, add-one, replicate, set, length-set, get_or-set_same, get_or-set_other}
use Rattle.std.proofs.lemmas.Bool.{false≢true}
use mathlib.Core.Option.{some, some-injective, some-ne-none}
use lib.ListN.{get_elem?, length-map, length-replicate}
use Rattle.atomic_table.specs.Table.{opening}
use Rattle.ww_lock.specs.declared.board.LockView.{LockView}
use Rattle.ww_lock.specs.declared.board.Slot.{Slot}
use Rattle.ww_lock.specs.declared.board.Slot.TheVariants.{Pivot, Value}
use Rattle.ww_lock.specs.Facts.{Facts, AreLawful}
use Rattle.ww_lock.specs.Rule.{In, KnowsBelow, Sees, Keeps, newcomer, idle, saw}
use Rattle.std.specs.Prelude as plain
use Rattle.ww_lock.specs.Parts.{AreWithin}
use Rattle.ww_lock.specs.Lifetime.{valued, AllFit}

only : {V : Type 0} (v u : V) (j : ℕ) → get_elem? (v ∷ []) j ≡ some u → (j ≡ 0) × (v ≡ u)
only v u zero e = (refl, some-injective v u e)
only v u (suc j) e = absurd (some-ne-none u (sym e))

all_home : {P X T : Type 0} (fit : ℕ → X → Type 0) (xs : List X) (k b : ℕ) → b < length xs → AllFit fit k xs → (x : X) × (get_elem? (map (λ (s : Slot P X T). some s) (map valued xs)) b ≡ some (some (Value x))) × fit (k + b) x
all_home fit [] k b l h = absurd (omega arith)
all_home fit (x ∷ xs) k zero l h = (x, refl, subst (λ i. fit i x) (let e : k ≡ k + 0 = omega arith in e) h.0)
all_home fit (x ∷ xs) k (suc b) l h = let r = all_home fit xs (k + 1) b (omega arith) h.1 in (r.0, r.1, subst (λ i. fit i r.0) (let e : k + 1 + b ≡ k + suc b = omega arith in e) r.2)

-- a board of this pivot and these values, with its words at 0 but for the counter, is under the rule
pub opens : {P X T : Type 0} (facts : Facts P X T) (lawful : AreLawful facts) (posts : ℕ) (p : P) (xs : List X) (words : List ℕ) → length words ≡ length xs + 2 + posts → ((f : ℕ) → facts.posted p f ≡ 0) → get_or words 0 0 ≡ 1
    → ((i : ℕ) → 0 < i → get_or words i 0 ≡ 0) → facts.good p → AllFit (λ b x. facts.fits b p x) 0 xs → Keeps facts posts (opening words (Pivot p ∷ map valued xs) (newcomer p))
opens {P} {X} {T} facts lawful posts p xs words wide still one blank fine fit = record {
  n = length xs;
  shown = p;
  wide = wide;
  deep = let m = length-map (map valued xs) (λ (s : Slot P X T). some s) in let k = length-map xs (valued {P = P} {X = X} {T = T}) in omega arith;
  locks = record {
    counter = (omega arith, omega arith);
    tickets = λ j v a. subst (λ (z : LockView X). z.ticket < get_or words 0 0) (only idle v j a).1 (omega arith);
    apart = λ j k v w a c real _. let e : 0 ≡ v.ticket = ap (λ z. z.ticket) (only idle v j a).1 in absurd (omega arith);
    drawn = λ t pos l. absurd (omega arith);
    known = λ j v a. subst (λ (z : LockView X). KnowsBelow z (get_or words 0 0)) (only idle v j a).1 ((λ _ h. absurd h), (λ _ _ h. absurd h), (λ _ _ h. absurd h));
    ended = λ j v a e. absurd (false≢true (subst (λ (z : LockView X). z.ended ≡ true) (sym (only idle v j a).1) e));
    home = λ b l z. let h = all_home {P = P} {T = T} (λ b x. facts.fits b p x) xs 0 b l fit in (h.0, subst (λ k. get_elem? (map (λ (s : Slot P X T). some s) (Pivot p ∷ map valued xs)) k ≡ some (some (Value h.0))) (sym (add-one b)) h.1, subst (λ k. facts.fits k p h.0) (let e : 0 + b ≡ b = omega arith in e) h.2);
    out = λ b l nz. absurd (nz (blank (b + 2) (omega arith)));
    owed = λ j v b x a h. absurd (subst (λ (z : LockView X). In (b, x) z.owes) (sym (only idle v j a).1) h);
    met = λ j v b h a k. absurd (subst (λ (z : LockView X). In (b, h) z.met) (sym (only idle v j a).1) k);
  };
  pivots = record {
    at_home = λ _. refl;
    away = λ nz. absurd (nz (blank 1 (omega arith)));
    is_good = fine;
    each = λ j v a. subst (Sees facts.grows p (get_or words 1 0)) (only (saw (p ∷ [])) v j a).1 record {
      inside = λ t. absurd (false≢true t);
      grown = λ q h. ⊎_elim (λ e. subst (λ z. facts.grows z p) (sym e) (lawful.reflexive p)) (λ t. absurd t) h;
      order = λ q r h k. ⊎_elim (λ e. ⊎_elim (λ f. subst (λ (z : P × P). facts.grows z.0 z.1 ⊎ facts.grows z.1 z.0) (λ i. (sym e i, sym f i)) (inl (lawful.reflexive p))) (λ t. absurd t) k) (λ t. absurd t) h;
      lefts = λ c h. absurd h;
      stays = λ c h. absurd h;
      calls = λ c h. absurd h;
      ordered = tt;
    };
    two = λ j k v w a b ne. absurd (ne ((only _ v j a).0 ∙ sym (only _ w k b).0));
  };
  looks = record {
    at = λ f l. blank (length xs + 2 + f) (omega arith) ∙ sym (still f);
    past = λ j v f x a h. absurd (subst (In (f, x)) (sym (only [] v j a).1) h);
  };
  tasks = record {
    each = λ j t a. absurd (let e = (only plain.None (plain.Some t) j a).1 in cc (e));
    once = λ j k t a b. absurd (let e = (only plain.None (plain.Some t) j a).1 in cc (e));
  };
  parts = record {
    n = 0;
    within = λ j ds a. subst (AreWithin 0) (only (0 ∷ []) ds j a).1 (omega arith, tt);
    whole = refl;
    blank = λ j v a e. absurd (let n : suc zero ≡ 0 = ap length (ap (λ z. z.part) (only (newcomer p) v j a).1 ∙ e) in omega arith);
  };
  latest = (0, newcomer p, refl, inl refl);
}

-- so many words, each of them 0
abbrev pub zero_row : ℕ → List ℕ
zero_row k = replicate k 0

zeros : (k i : ℕ) → get_or (zero_row k) i 0 ≡ 0
zeros zero i = refl
zeros (suc k) zero = refl
zeros (suc k) (suc i) = zeros k i

-- the words of a new board: the counter is 1, and each other word is 0
pub first_words : (k : ℕ) → (length (set (zero_row (k + 2)) 0 1) ≡ k + 2) × (get_or (set (zero_row (k + 2)) 0 1) 0 0 ≡ 1) × ((i : ℕ) → 0 < i → get_or (set (zero_row (k + 2)) 0 1) i 0 ≡ 0)
first_words k = let z : List ℕ = zero_row (k + 2) in let n : length z ≡ k + 2 = length-replicate (k + 2) 0 in (length-set z 0 1 ∙ n, get_or-set_same z 0 1 0 (omega arith), λ i h. get_or-set_other z 0 i 1 0 (λ e. omega arith) ∙ zeros (k + 2) i)
