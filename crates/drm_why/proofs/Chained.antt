-- The jobs that hold a job up so far, and one more.
use Rattle.std.proofs.Common.{◌≡◌, ℕ, ◌<◌, ◌≤◌, List, [], ◌∷◌, ◌++◌, Option, Some, None, append_assoc, append-nil, refl, sym, subst, inl, inr}
use Rattle.drm_state.specs.State.{DeviceState}
use Rattle.drm_why.specs.Chains.{IsChainFrom, holder_of, link_of}
use Rattle.drm_why.specs.declared.chain.Link.{Link}

-- whatever holds up the last one, with those so far it holds up the first one
abbrev pub ChainOn : DeviceState → ℕ → Option ℕ → List Link → ℕ → Option ℕ → Type 0
ChainOn device fence first so_far number next =
    (more : List Link) → IsChainFrom device number next more → IsChainFrom device fence first (so_far ++ more)

-- an earlier job more
pub link_on : (d : DeviceState) (fence number by : ℕ) (first next : Option ℕ) (so_far : List Link) (link : Link) → ChainOn d fence first so_far number next
    → next ≡ Some by → link ≡ link_of d by → by < number → ChainOn d fence first (so_far ++ link ∷ []) by (holder_of link.reason)
link_on d fence number by first next so_far link on holds is earlier =
    subst (λ (l : Link). ChainOn d fence first (so_far ++ l ∷ []) by (holder_of l.reason)) (sym is) (λ more chain.
    subst (IsChainFrom d fence first) (sym (append_assoc so_far (link_of d by ∷ []) more)) (on (link_of d by ∷ more) (holds, refl, inl (earlier, chain))))

-- a later one, which ends them
pub link_last : (d : DeviceState) (fence number by : ℕ) (first next : Option ℕ) (so_far : List Link) (link : Link) → ChainOn d fence first so_far number next
    → next ≡ Some by → link ≡ link_of d by → number ≤ by → IsChainFrom d fence first (so_far ++ link ∷ [])
link_last d fence number by first next so_far link on holds is later =
    subst (λ (l : Link). IsChainFrom d fence first (so_far ++ l ∷ [])) (sym is) (on (link_of d by ∷ []) (holds, refl, inr (later, refl)))

-- and none more
pub chain_ends : (d : DeviceState) (fence number : ℕ) (first next : Option ℕ) (so_far : List Link) → ChainOn d fence first so_far number next
    → next ≡ None → IsChainFrom d fence first so_far
chain_ends d fence number first next so_far on none = subst (IsChainFrom d fence first) (append-nil so_far) (on [] none)
