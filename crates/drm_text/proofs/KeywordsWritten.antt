-- The first words of lines, read and written.
use Rattle.std.proofs.Common.{◌≡◌, ℕ, Bool, true, false, cond, List, [], ◌∷◌, Some, Option, refl}
use Rattle.std.specs.Prelude.{find}
use Rattle.std.specs.Str.{bytes_eq}
use Rattle.std.proofs.lemmas.Slice.Eq.{bytes_eq-Decides}
use Rattle.drm_text.specs.declared.keywords.Command.TheVariants as command
use Rattle.drm_text.specs.declared.keywords.Keyword.{Keyword}
use Rattle.drm_text.specs.declared.keywords.Keyword.TheVariants as line
use Rattle.drm_text.specs.Keywords.{keyword_of, keyword_text, keywords}

found_here : {K : Type 0} (p : K → Bool) (k found : K) (rest : Option K) → (rest ≡ Some found → p found ≡ true) → (b : Bool) → p k ≡ b
    → cond b (Some k) rest ≡ Some found → p found ≡ true
found_here p k found rest again true is e = let same : k ≡ found = cc in rw (← same) is
found_here p k found rest again false is e = again e

find_passes : {K : Type 0} (p : K → Bool) (ks : List K) (found : K) → find p ks ≡ Some found → p found ≡ true
find_passes p [] found e = absurd (cc)
find_passes p (k ∷ ks) found e = found_here p k found (find p ks) (λ more. find_passes p ks found more) (p k) refl e

pub keyword_takes : (keyword : Keyword) (word : List ℕ) → keyword_of word ≡ Some keyword → word ≡ keyword_text keyword
unfolding keyword_of
keyword_takes keyword word e =
    (bytes_eq-Decides word (keyword_text keyword)).0 (find_passes (λ k. bytes_eq word (keyword_text k)) keywords keyword e)

pub keyword_written : (keyword : Keyword) → keyword_of (keyword_text keyword) ≡ Some keyword
unfolding keyword_of
keyword_written line.Buffer = refl
keyword_written line.Zero = refl
keyword_written line.Ring = refl
keyword_written line.Entity = refl
keyword_written line.Jobs = refl
keyword_written line.Go = refl
keyword_written line.Job = refl
keyword_written line.Final = refl
keyword_written (line.Command command.Submit) = refl
keyword_written (line.Command command.Begin) = refl
keyword_written (line.Command command.Try) = refl
keyword_written (line.Command command.Done) = refl
keyword_written (line.Command command.Drop) = refl
keyword_written (line.Command command.End) = refl
keyword_written (line.Command command.Plan) = refl
keyword_written (line.Command command.Arm) = refl
keyword_written (line.Command command.Pick) = refl
keyword_written (line.Command command.Step) = refl
keyword_written (line.Command command.Finish) = refl
keyword_written (line.Command command.Timeout) = refl
keyword_written (line.Command command.Cancel) = refl
keyword_written (line.Command command.Reap) = refl
keyword_written (line.Command command.Read) = refl
keyword_written (line.Command command.Fence) = refl
keyword_written (line.Command command.Dump) = refl
