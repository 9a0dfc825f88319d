-- The fields of a line: what stands between its spaces.
use Rattle.std.specs.Prelude.{◌≡◌, ◌==◌, ℕ, zero, suc, Bool, List, [], ◌∷◌}
use Rattle.std.specs.List.{slice_split}
use Rattle.std.specs.Option.{option_map_or}
use Rattle.ledger_text.specs.declared.fields.Fields.{Fields}

abbrev pub is_space : ℕ → Bool
is_space byte = byte == 32

-- single spaces separate the fields
abbrev pub fields_of : List ℕ → List (List ℕ)
fields_of line = slice_split is_space line

-- the first field, empty where there is none
abbrev pub first_field : List (List ℕ) → List ℕ
first_field [] = []
first_field (field ∷ fields) = field

-- the fields after the first
abbrev pub next_fields : List (List ℕ) → List (List ℕ)
next_fields [] = []
next_fields (field ∷ fields) = fields

-- The first n of the wanted fields are the first of the fields, where the end of the wanted ones counts as one more of them.
abbrev pub Agrees : ℕ → List (List ℕ) → List (List ℕ) → Type 0
Agrees zero wanted fields = Unit {0}
Agrees (suc n) [] fields = fields ≡ []
Agrees (suc n) (field ∷ wanted) fields = (field ≡ first_field fields) × Agrees n wanted (next_fields fields)

-- the fields that are left
abbrev pub left_of : Fields → List (List ℕ)
left_of fields = option_map_or (λ rest. fields_of rest.now) fields.rest []
