-- The selector that the words of a line build, and whether the device of a folder is one that it matches.
use Rattle.std.specs.Prelude.{ℕ, Bool, List, fold, Some, Result, Ok}
use Rattle.usb_enum_sysfs.specs.Tree.{Tree}
use Rattle.usb_enum_sysfs.specs.declared.sysfs.SysfsError.{SysfsError}
use Rattle.usb_error.specs.Outcomes.{◌>>=◌}
use Rattle.usb_enum.specs.Probing.{probe}
use Rattle.usb_enum.specs.Selectors.{SelectorFacts, all_devices, matches}
use Rattle.usb_script_words.specs.declared.selector.Criterion.{Criterion}
use Rattle.usb_script_words.specs.declared.selector.Criterion.TheVariants.{Vendor, Product, Class, Subclass, Protocol, Serial}

-- the selector with one more criterion, which replaces only what it names
abbrev pub with_criterion : SelectorFacts → Criterion → SelectorFacts
with_criterion s (Vendor vendor) = record s { vendor_id = Some vendor }
with_criterion s (Product vendor product) = record s { vendor_id = Some vendor; product_id = Some product }
with_criterion s (Class class) = record s { class = Some class }
with_criterion s (Subclass class subclass) = record s { class = Some class; subclass = Some subclass }
with_criterion s (Protocol class subclass protocol) = record s { class = Some class; subclass = Some subclass; protocol = Some protocol }
with_criterion s (Serial serial) = record s { serial = Some serial }

-- the criteria in their order
unfoldable pub selector_with : List Criterion → SelectorFacts
selector_with criteria = fold with_criterion all_devices criteria

-- whether the device of a folder matches, or which attribute gave no value
unfoldable pub matched : Tree → List ℕ → List Criterion → Result Bool SysfsError
matched t path criteria = do
  device ← probe t path
  Ok (matches (selector_with criteria) device)
