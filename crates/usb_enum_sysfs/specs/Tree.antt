-- The tree of attributes: what the folders of devices hold, and the listing of devices.
use Rattle.std.specs.Prelude.{ℕ, List, [], Option, Some, None, Result, Ok, Err, if◌then◌else◌, unwrap_or}
use Rattle.std.specs.Str.{bytes_eq, is_utf8}
use Rattle.std.specs.Map.{lookup}
use Rattle.indexmap.specs.IndexMap.{insert_entry}
use Rattle.usb_enum_sysfs.specs.Names.{with_name}
use Rattle.usb_enum_sysfs.specs.Paths.{path_in}
use Rattle.usb_enum_sysfs.specs.declared.tree.Attribute.{Attribute}
use Rattle.usb_enum_sysfs.specs.declared.tree.Attribute.TheVariants.{Content, Denied}

-- Each list has a path or a name once, in the order in which they were first set.
pub record Tree : Type 0 where
  pub attributes : List (List ℕ × Attribute)  -- by their own paths
  pub folders : List (List ℕ × List (List ℕ))  -- the names of a folder's sub-folders, in order of their bytes
  pub links : List (List ℕ × List ℕ)  -- the targets of symbolic links, by the links' own paths
  pub entries : List (List ℕ × List ℕ)  -- the listing of devices: names, and where they lead
  pub refusal : Option ℕ  -- the errno with which the listing fails

-- nothing is there
abbrev pub bare : Tree
bare = record { attributes = []; folders = []; links = []; entries = []; refusal = None }

-- the sub-folders of a folder
abbrev pub children_of : Tree → List ℕ → List (List ℕ)
children_of t folder = unwrap_or (lookup (bytes_eq folder) t.folders) []

-- One place is set. What stood there is replaced, in its place; what is new comes last.
abbrev pub with_attribute : Tree → List ℕ → List ℕ → Attribute → Tree
with_attribute t folder name attribute = record t { attributes = insert_entry bytes_eq t.attributes (path_in folder name) attribute }

abbrev pub with_child : Tree → List ℕ → List ℕ → Tree
with_child t folder name = record t { folders = insert_entry bytes_eq t.folders folder (with_name (children_of t folder) name) }

abbrev pub with_link : Tree → List ℕ → List ℕ → List ℕ → Tree
with_link t folder name target = record t { links = insert_entry bytes_eq t.links (path_in folder name) target }

abbrev pub with_entry : Tree → List ℕ → List ℕ → Tree
with_entry t name path = record t { entries = insert_entry bytes_eq t.entries name path }

-- bytes as text
abbrev pub utf8_text : List ℕ → Result (List ℕ) ℕ
utf8_text bytes = if is_utf8 bytes then Ok bytes else Err 84

-- the text of an attribute, or the errno with which reading it fails: 2 where it is missing, 84 where it is no UTF-8
abbrev pub text_of : Option Attribute → Result (List ℕ) ℕ
text_of None = Err 2
text_of (Some (Denied errno)) = Err errno
text_of (Some (Content bytes)) = utf8_text bytes

-- the same of the attribute with this path
abbrev pub text_at : Tree → List ℕ → Result (List ℕ) ℕ
text_at t path = text_of (lookup (bytes_eq path) t.attributes)
