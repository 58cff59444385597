-- The JSON value that stands for a TOML value.
use Rattle.std.specs.Prelude.{ℕ, List, Option, Some, None, option_map, option_and_then}
use Rattle.std.specs.Fmt.{signed_decimal}
use Rattle.json.specs.Json as json
use Rattle.json.specs.Json.{Json}
use Rattle.toml.specs.Data.{Data, string, integer, float, boolean, datetime, array, table, Items, no_items, item, Members, no_members, member}
use Rattle.toml.specs.Parse.{parse_document}

-- A float and a date-time have none, and what holds such a value has none.
abbrev mutual
  pub json_of : Data → Option Json
  json_of (string s) = Some (json.string s)
  json_of (integer z) = Some (json.number (signed_decimal z))
  json_of (float x) = None
  json_of (boolean b) = Some (json.boolean b)
  json_of (datetime t) = None
  json_of (array ds) = option_map json.array (list_of ds)
  json_of (table ms) = option_map json.object (members_of ms)

  pub list_of : Items → Option json.Items
  list_of no_items = Some json.no_items
  list_of (item d ds) = option_and_then (λ j. option_map (json.item j) (list_of ds)) (json_of d)

  pub members_of : Members → Option json.Members
  members_of no_members = Some json.no_members
  members_of (member k d ms) = option_and_then (λ j. option_map (json.member k j) (members_of ms)) (json_of d)

-- the JSON value that stands for the table that a text of TOML is
abbrev pub meaning : List ℕ → Option Json
meaning text = option_and_then (λ ms. json_of (table ms)) (parse_document text)
