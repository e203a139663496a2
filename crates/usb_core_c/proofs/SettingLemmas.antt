-- The setting with an index.
use Rattle.std.proofs.Common.{◌≡◌, ℕ, List, Option, Some, sym, ◌∙◌, ap, option_map}
use Rattle.std.specs.List.{slice_get}
use Rattle.std.proofs.lemmas.Iterator.Adapters.{option_map_id}
use Rattle.usb_desc.specs.Configurations.{alt_settings, configuration_of}
use Rattle.usb_core_c.specs.Walks.{settings_in, settings_of}

-- what the walk over a configuration's settings gave is the setting of the bytes
pub setting_is : (bytes configuration : List ℕ) (made got : Option (List ℕ)) (index : ℕ) → made ≡ configuration_of bytes → made ≡ Some configuration
    → option_map (λ x. x) got ≡ slice_get (alt_settings configuration) index → got ≡ slice_get (settings_of bytes) index
setting_is bytes configuration made got index value is nth =
    sym (ap (λ settings. slice_get settings index) (ap settings_in (sym value ∙ is)) ∙ sym nth ∙ option_map_id got)
