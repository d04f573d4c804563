-- Which warnings of a text are told, and how an object of JSON has them.
use Rattle.std.specs.Prelude.{ℕ, Bool, if◌then◌else◌, Option, Some, None, List, [], codes, map}
use Rattle.std.specs.Global.{Vec}
use Rattle.ps_warnings.specs.Warnings.{warnings}
use Rattle.ps_warnings.specs.Wording.{sentence}
use Rattle.ps_warnings.specs.declared.kinds.Warning.{Warning}
use Rattle.ps_report.specs.declared.details.How.{How}
use Rattle.serde_json.specs.Data.{Data, Members, number, unsigned, string, array, object, member, no_members}
use Rattle.serde_json.specs.View.{items_of, view}
use Rattle.serde_json.specs.declared.value.Value.{Value}

-- those of the text, if they are asked for
abbrev pub told_warnings : How → List ℕ → List Warning
told_warnings how text = if how.warns then warnings text else []

-- a warning
abbrev pub warning_data : Warning → Data
warning_data warning =
    object (member (codes "line") (number (unsigned warning.line))
    (member (codes "message") (string (sentence warning.kind)) no_members))

abbrev pub warnings_data : List Warning → List Data
warnings_data warnings = map warning_data warnings

-- the last member of an object: it is there, if warnings are asked for
abbrev pub warning_members : Bool → List Warning → Members
warning_members asked warnings =
    if asked then member (codes "warnings") (array (items_of (warnings_data warnings))) no_members else no_members

-- that of the object on a text
abbrev pub last_members : How → List ℕ → Members
last_members how text = warning_members how.warns (told_warnings how text)

-- what values of the code make of it
abbrev pub members_shown : Option (Vec Value) → Members
members_shown None = no_members
members_shown (Some values) = member (codes "warnings") (array (items_of (map view values.items))) no_members
