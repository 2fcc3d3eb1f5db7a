-- The bytes of one record, where the byte order of its data is known.
use Rattle.std.specs.Prelude.{◌≡◌, ◌⊎◌, ℕ, ◌<◌, ◌+◌, ◌^◌, List, [], ◌∷◌, ◌++◌, length, slice_index_or, slice_set, nat_lt, if◌then◌else◌}
use Rattle.std.specs.List.{AllByRecursion}
use Rattle.fit_base.specs.declared.items.Items.{Items}
use Rattle.fit_base.specs.declared.number.Order.{Order}
use Rattle.fit_base.specs.declared.number.Order.TheVariants.{Little}
use Rattle.fit_base.specs.Numbers.{number_bytes}
use Rattle.fit_record.specs.declared.definition.MessageDef.{MessageDef}
use Rattle.fit_record.specs.declared.message.Record.{Record}
use Rattle.fit_record.specs.declared.message.Record.TheVariants.{Define, Values as Data}
use Rattle.fit_record.specs.DefinitionLengths.{definition_length}
use Rattle.fit_record.specs.Records.{architecture, definition_header, definition_bytes, body_length, DefinitionFits, data_header, data_bytes, DataHeaderFits}

abbrev pub bytes_in_order : {A : Type 0} → Order → Record A → List ℕ
bytes_in_order order (Define d) = definition_header d ∷ definition_bytes d
bytes_in_order order (Data v) = data_header v.local v.offset ∷ data_bytes order v

-- a definition message up to its number of fields
abbrev pub definition_head : {A : Type 0} → MessageDef A → List ℕ
definition_head d = definition_header d ∷ d.reserved ∷ architecture d.order ∷ number_bytes d.order 2 d.global ++ length d.fields ∷ []

abbrev pub IsWidth : ℕ → Type 0
IsWidth width = (width ≡ 1) ⊎ (width ≡ 2) ⊎ (width ≡ 4) ⊎ (width ≡ 8)

-- the items have a width, and fit it
pub record HasBytes {A : Type 0} (items : Items A) : Type 0 where
  pub width : IsWidth items.width
  pub fit : AllByRecursion (λ n. n < 256 ^ items.width) items.bits

-- numbers, lists and local message types are such that the record has bytes
abbrev pub IsSpellable : {A : Type 0} → Record A → Type 0
IsSpellable (Define d) = DefinitionFits d
IsSpellable (Data v) = DataHeaderFits v.local v.offset × AllByRecursion HasBytes v.fields × AllByRecursion HasBytes v.dev

-- ---- what the writing pass keeps of the records so far: the byte order of each local message type

abbrev pub order_in : {A : Type 0} → List Order → Record A → Order
order_in orders (Define d) = Little
order_in orders (Data v) = slice_index_or orders v.local Little

abbrev pub orders_after : {A : Type 0} → List Order → Record A → List Order
orders_after orders (Define d) = if nat_lt d.local 16 then slice_set orders d.local d.order else orders
orders_after orders (Data v) = orders

-- ---- and how many bytes follow the record header of its data messages

abbrev pub size_in : {A : Type 0} → List ℕ → Record A → ℕ
size_in sizes (Define d) = definition_length d
size_in sizes (Data v) = 1 + slice_index_or sizes v.local 0

abbrev pub sizes_after : {A : Type 0} → List ℕ → Record A → List ℕ
sizes_after sizes (Define d) = if nat_lt d.local 16 then slice_set sizes d.local (body_length d) else sizes
sizes_after sizes (Data v) = sizes
