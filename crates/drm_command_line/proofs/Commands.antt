-- A program to which commands are added.
use Rattle.std.proofs.Common.{◌≡◌, ◌∙◌, ap, ap₂, false, IfOk, Ok, Err, Result}
use Rattle.clap.specs.Built.{AddsSubcommand}
use Rattle.clap.specs.Words.{App, app_of, with_subcommand}
use Rattle.clap.specs.declared.builder.command.Command.{Command}
use Rattle.clap.specs.declared.builder.command.Command.TheViews.{out-Command}

-- a program with one command more
pub added : (old sub new : Command) (above below : App) → app_of old ≡ above → app_of sub ≡ below → (out-Command sub).has_globals ≡ false → AddsSubcommand old sub new
    → app_of new ≡ with_subcommand above below.top
added old sub new above below is_above is_below local adds =
    adds.shape local ∙ ap₂ with_subcommand is_above (ap (λ (a : App). a.top) is_below)

-- and that which may be refused
pub added_last : {E : Type 0} (old sub : Command) (result : Result Command E) (above below : App) → app_of old ≡ above → app_of sub ≡ below → (out-Command sub).has_globals ≡ false
    → IfOk result (λ new. AddsSubcommand old sub new) → IfOk result (λ new. app_of new ≡ with_subcommand above below.top)
added_last old sub (Ok new) above below is_above is_below local adds = added old sub new above below is_above is_below local adds
added_last old sub (Err error) above below is_above is_below local adds = tt
