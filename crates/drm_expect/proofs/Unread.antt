-- A test that could not be read.
use Rattle.std.proofs.Common.{◌≡◌, ℕ, List, Option, refl, inl, inr}
use Rattle.std.proofs.KnownBytes.{Keeps-refl}
use Rattle.drm_stream.specs.declared.input.InputError.{InputError}
use Rattle.drm_stream.specs.declared.input.InputError.TheVariants as input
use Rattle.drm_engine.specs.Endings.{ending_of_input}
use Rattle.drm_expect.specs.Testing.{IsNoFault, IsUnread}

pub unread : (error : InputError) (old : Option (List ℕ)) → IsNoFault error → IsUnread old old (ending_of_input error)
unread input.Failed old plain = (inl refl, Keeps-refl old)
unread input.Memory old plain = (inr refl, Keeps-refl old)
unread (input.Fault fault) old never = absurd never
