-- Columns: what is told of one, and which one is found.
use Rattle.std.proofs.Common.{◌≡◌, ◌∙◌, ℕ, Option, ap, get_or, take}
use Rattle.drm_core.specs.declared.event.Event.{Event}
use Rattle.drm_picture.specs.Columns.{last_moment}
use Rattle.drm_picture.specs.Commands.{moment_of}
use Rattle.drm_picture.specs.declared.picture.Picture.{Picture}
use Rattle.drm_svg.specs.Axis.{tick_in, tick_text}
use Rattle.drm_svg.specs.Head.{column_in, column_text, new_moment}
use Rattle.drm_svg.specs.Layout.{column_at}

-- what is told of the column of a command
pub column_is : (picture : Picture) (place column : ℕ) (told : Option ℕ) (command d : Event ℕ) → column ≡ column_at picture place
    → told ≡ last_moment (take place picture.columns.items) → command ≡ get_or picture.columns.items place d
    → column_text picture.first place column told command ≡ column_in picture (place, get_or picture.columns.items place d)
column_is picture place column told command d at last is =
    ap (λ (c : ℕ). column_text picture.first place c told command) at
    ∙ ap (λ (t : Option ℕ). column_text picture.first place (column_at picture place) t command) last
    ∙ ap (λ (e : Event ℕ). column_text picture.first place (column_at picture place) (last_moment (take place picture.columns.items)) e) is

-- its tick
pub tick_is : (picture : Picture) (place column : ℕ) (told now new : Option ℕ) (d : Event ℕ) → column ≡ column_at picture place → new ≡ new_moment told now
    → told ≡ last_moment (take place picture.columns.items) → now ≡ moment_of (get_or picture.columns.items place d)
    → tick_text column new ≡ tick_in picture (place, get_or picture.columns.items place d)
tick_is picture place column told now new d at differs last is =
    ap (λ (c : ℕ). tick_text c new) at
    ∙ ap (λ (t : Option ℕ). tick_text (column_at picture place) t) differs
    ∙ ap (λ (t : Option ℕ). tick_text (column_at picture place) (new_moment t now)) last
    ∙ ap (λ (t : Option ℕ). tick_text (column_at picture place) (new_moment (last_moment (take place picture.columns.items)) t)) is
