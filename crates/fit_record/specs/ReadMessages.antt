-- The data message that bytes make.
use Rattle.std.specs.Prelude.{ℕ, zero, suc, ◌/◌, List, [], ◌∷◌, Option, take, drop}
use Rattle.fit_base.specs.declared.items.Items.{Items}
use Rattle.fit_base.specs.declared.number.Order.{Order}
use Rattle.fit_base.specs.BaseTypes.{item_width}
use Rattle.fit_base.specs.Numbers.{number}
use Rattle.fit_record.specs.declared.message.Values.{Values}
use Rattle.fit_record.specs.declared.environment.Defined.{Defined}
use Rattle.fit_record.specs.Records.{layout, dev_layout, sizes}

-- the numbers of n pieces of w bytes
abbrev pub numbers_of : Order → ℕ → ℕ → List ℕ → List ℕ
numbers_of o w zero bytes = []
numbers_of o w (suc n) bytes = number o (take w bytes) ∷ numbers_of o w n (drop w bytes)

-- the items of one field, by its code and size
abbrev pub field_from : {A : Type 0} → Order → ℕ × ℕ → List ℕ → Items A
field_from o f bytes = record { width = item_width f.0 f.1; bits = numbers_of o (item_width f.0 f.1) (f.1 / item_width f.0 f.1) bytes }

-- the items of fields, one after another, by code and size of each
abbrev pub fields_from : {A : Type 0} → Order → List (ℕ × ℕ) → List ℕ → List (Items A)
fields_from o [] bytes = []
fields_from o (f ∷ fs) bytes = field_from o f (take f.1 bytes) ∷ fields_from o fs (drop f.1 bytes)

-- the message of a definition
abbrev pub values_from : {A : Type 0} → ℕ → Option ℕ → Order → Defined A → List ℕ → Values A
values_from local offset o p bytes =
    record {
      local = local;
      offset = offset;
      fields = fields_from o (layout p) (take (sizes (layout p)) bytes);
      dev =
          fields_from o (dev_layout p) (drop (sizes (layout p)) bytes);
    }
