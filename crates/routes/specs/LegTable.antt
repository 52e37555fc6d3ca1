-- Attachment 5 of the standard, to be laid beside the page: which leg may begin and which may end a route of which kind (1.2), and which may
-- stand behind which (1.3), as far as the copy can be read. docs/LEG-TABLE.md says where each mark is read, and what is in doubt.
-- Assumes nothing.
use Rattle.std.specs.Prelude.{ℕ, List, [], ◌∷◌}
use Prim.Native.Char.{Char, code}
use Prim.Native.String.{String, [] as ε, ◌∷◌ as ◌▹◌}

-- the names in a text, two letters each, with a blank between them
unfoldable pub named : String → List (List ℕ)
named (a ▹ b ▹ blank ▹ s) = (code a ∷ code b ∷ []) ∷ named s
named (a ▹ b ▹ ε) = (code a ∷ code b ∷ []) ∷ []
named (a ▹ ε) = []
named ε = []

-- ---- 1.3 Leg Sequencing

-- "current leg/next leg": a row for each leg, a column for the one behind it. A star is the page's own mark; an ampersand stands where its
-- footnote names the cell; a dot is a cell that can't be read, since the copy has lost the shading.
unfoldable pub page : List String
page =
    "   AF CA CD CF CI CR DF FA FC FD FM HA HF HM IF PI RF TF VA VD VI VM VR" ∷
    "AF .  .  .  .  .  .  .  .  .  .  .  .  .  .  .  .  .  .  .  .  .  .  . " ∷
    "CA .  .  .  .  .  .  .  .  .  .  .  .  .  .  .  .  .  .  .  .  .  .  . " ∷
    "CD .  .  .  .  .  .  .  .  .  .  .  .  .  .  .  .  .  .  .  .  .  .  . " ∷
    "CF .  .  .  .  .  .  &  .  .  .  .  .  .  .  .  .  .  .  .  .  .  .  . " ∷
    "CI .  .  .  .  .  .  .  .  .  .  .  .  .  .  .  .  .  .  .  .  .  .  . " ∷
    "CR .  .  .  .  .  .  .  .  .  .  .  .  .  .  .  .  .  .  .  .  .  .  . " ∷
    "DF .  .  .  .  .  .  &  .  .  .  .  .  .  .  .  .  .  .  .  .  .  .  . " ∷
    "FA .  .  .  .  .  .  .  .  .  .  .  .  .  .  .  .  .  .  .  .  .  .  . " ∷
    "FC .  .  .  .  .  .  &  .  .  .  .  .  .  .  .  .  .  .  .  .  .  .  . " ∷
    "FD .  .  .  .  .  .  .  .  .  .  .  .  .  .  .  .  .  .  .  .  .  .  . " ∷
    "FM .  .  .  .  .  .  .  .  .  .  .  .  .  .  .  .  .  .  .  .  .  .  . " ∷
    "HA .  .  .  .  .  .  .  .  .  .  .  .  .  .  .  .  .  .  .  .  .  .  . " ∷
    "HF .  .  .  .  .  .  .  .  .  .  .  .  .  .  .  .  .  .  .  .  .  .  . " ∷
    "HM .  .  .  .  .  .  .  .  .  .  .  .  .  .  .  .  .  .  .  .  .  .  . " ∷
    "IF .  .  .  .  .  .  .  *  *  *  *  *  *  *  *  *  *  .  .  .  .  .  . " ∷
    "PI .  .  .  .  .  .  .  .  .  .  .  .  .  .  .  .  .  .  .  .  .  .  . " ∷
    "RF .  .  .  .  .  .  .  .  .  .  .  .  .  .  .  .  .  .  .  .  .  .  . " ∷
    "TF .  .  .  .  .  .  .  .  .  .  .  .  .  .  .  .  .  .  .  .  .  .  . " ∷
    "VA .  .  .  .  .  .  .  .  .  .  .  .  .  .  .  .  .  .  .  .  .  .  . " ∷
    "VD .  .  .  .  .  .  .  .  .  .  .  .  .  .  .  .  .  .  .  .  .  .  . " ∷
    "VI .  .  .  .  .  .  .  .  .  .  .  .  .  .  .  .  .  .  .  .  .  .  . " ∷
    "VM .  .  .  .  .  .  .  .  .  .  .  .  .  .  .  .  .  .  .  .  .  .  . " ∷
    "VR .  .  .  .  .  .  .  .  .  .  .  .  .  .  .  .  .  .  .  .  .  .  . " ∷
    []

-- ---- 1.2 Beginning and Ending Leg Types

-- a kind of route: the page's name for it, the subsection in column 13, the route types in column 20, its first legs and its last legs
pub record RouteKind : Type 0 where
  pub title : String
  pub subsection : Char
  pub types : String
  pub first : String
  pub last : String

abbrev pub kind : (title : String) (subsection : Char) (types first last : String) → RouteKind
kind title subsection types first last = record { title = title; subsection = subsection; types = types; first = first; last = last }

-- The page's superscripts are conditions that a record does not show; such a leg is permitted. A missed approach is coded within the route of
-- its approach, so an approach ends by its own row, "CF, TF", or by that of the missed approach, which holds both.
unfoldable pub route_kinds : List RouteKind
route_kinds =
    kind "SID Runway Transition" "D" "014FT"
    "CA CD CF CI CR DF FA FC FD FM VA VD VI VM VR"
    "AF CF DF FM HA HM TF VM" ∷
    kind "SID" "D" "25M"
    "CA CD CF CI CR DF FA FC FD FM IF VA VD VI VM VR"
    "AF CF DF HA IF TF" ∷
    kind "SID Enroute Transition" "D" "36SV"
    "FA FC FD IF"
    "AF CF DF HA TF" ∷
    kind "STAR Enroute Transition" "E" "147F"
    "FC FD IF"
    "AF CF DF HA TF" ∷
    kind "STAR" "E" "258M"
    "FC FD IF"
    "AF CF DF FM IF TF VM" ∷
    kind "STAR Runway Transition" "E" "369S"
    "FC FD HF IF"
    "AF CF FM HF HM TF VM" ∷
    kind "Approach Transition" "F" "A"
    "FC FD HF IF PI"
    "AF CF CI HF HM PI RF TF VI" ∷
    kind "Approach" "F" "BEFGIJKLMNPRTUVWXY"
    "IF"
    "AF CA CF DF FM HM TF VA VM" ∷
    kind "Missed Approach" "F" "Z"
    "AF CA CD CF CI CR DF FA FC FD FM HA HM RF VA VD VI VM VR"
    "AF CA CF DF FM HM TF VA VM" ∷
    []

-- ---- where this differs from the rule that stood before it

-- of the pairs one alone: a leg, and the one behind it
pub record Cell : Type 0 where
  pub leg : String
  pub next : String

unfoldable pub pair_differences : List Cell
pair_differences = record { leg = "IF"; next = "IF" } ∷ []

-- of the first legs, for each kind of route in turn; against "TF and RF are never first"
unfoldable pub first_differences : List String
first_differences =
    "AF HA HF HM IF PI" ∷
    "AF HA HF HM PI" ∷
    "AF CA CD CF CI CR DF FM HA HF HM PI VA VD VI VM VR" ∷
    "AF CA CD CF CI CR DF FA FM HA HF HM PI VA VD VI VM VR" ∷
    "AF CA CD CF CI CR DF FA FM HA HF HM PI VA VD VI VM VR" ∷
    "AF CA CD CF CI CR DF FA FM HA HM PI VA VD VI VM VR" ∷
    "AF CA CD CF CI CR DF FA FM HA HM VA VD VI VM VR" ∷
    "AF CA CD CF CI CR DF FA FC FD FM HA HF HM PI VA VD VI VM VR" ∷
    "HF IF PI RF" ∷
    []

-- of the last legs likewise; any leg could end a route
unfoldable pub last_differences : List String
last_differences =
    "CA CD CI CR FA FC FD HF IF PI RF VA VD VI VR" ∷
    "CA CD CI CR FA FC FD FM HF HM PI RF VA VD VI VM VR" ∷
    "CA CD CI CR FA FC FD FM HF HM IF PI RF VA VD VI VM VR" ∷
    "CA CD CI CR FA FC FD FM HF HM IF PI RF VA VD VI VM VR" ∷
    "CA CD CI CR FA FC FD HA HF HM PI RF VA VD VI VR" ∷
    "CA CD CI CR DF FA FC FD HA IF PI RF VA VD VI VR" ∷
    "CA CD CR DF FA FC FD FM HA IF VA VD VM VR" ∷
    "CD CI CR FA FC FD HA HF IF PI RF VD VI VR" ∷
    "CD CI CR FA FC FD HA HF IF PI RF VD VI VR" ∷
    []
