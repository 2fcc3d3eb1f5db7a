-- What has been read of a chain, and how one more row goes on. No public contract names these.
use Rattle.std.specs.Prelude.{◌≡◌, ◌⊎◌, ◌<◌, ◌≤◌, ℕ, ◌==◌, ◌&&◌, Bool, true, if◌then◌else◌, List, [], ◌∷◌, ◌++◌, length, Option, Some, None, IfSome, IsSomeAnd}
use Rattle.std.specs.Prelude.{option_map, unwrap_or, slice_get}
use Rattle.std.specs.Option.{option_map_or}
use Rattle.std.specs.Global.{Global}
use Rattle.fit_base.specs.declared.items.Items.{Items}
use Rattle.fit_base.specs.Fields.{HasShape}
use Rattle.fit_frame.specs.declared.header.Header.{Header}
use Rattle.fit_record.specs.declared.definition.DevDef.{DevDef}
use Rattle.fit_record.specs.declared.definition.FieldDef.{FieldDef}
use Rattle.fit_record.specs.declared.definition.MessageDef.{MessageDef}
use Rattle.fit_record.specs.declared.environment.Defined.{Defined}
use Rattle.fit_record.specs.declared.message.Record.{Record}
use Rattle.fit_record.specs.declared.message.Record.TheVariants.{Define, Values as Data}
use Rattle.fit_record.specs.declared.message.Values.{Values}
use Rattle.fit_record.specs.Environment.{defined_at, dev_defs}
use Rattle.fit_record.specs.Files.{chain_limit}
use Rattle.fit_record.specs.Records.{DataFits, DefinitionFits}
use Rattle.fit_profile.specs.Looks.{known}
use Rattle.fit_rows.specs.ChainRows.{dev_def_row, dev_row, end_row, field_def_row, field_row, file_row}
use Rattle.fit_csv.specs.Judged.{DevDefInRange, FieldDefInRange, HeaderInRange}
use Rattle.fit_csv.specs.inner.Misfits.{HeadInRange, IsMessageStart, head_row, message_row}
use Rattle.fit_csv.specs.RowKinds.{naming_at}
use Rattle.fit_cells.specs.Rows.{Row}
use Rattle.fit_csv.specs.declared.from.chain.Chain.{Chain}
use Rattle.fit_csv.specs.declared.from.definition.DefinitionHead.{DefinitionHead}
use Rattle.fit_csv.specs.declared.from.definition.OpenDefinition.{OpenDefinition}
use Rattle.fit_csv.specs.declared.from.open_file.OpenFile.{OpenFile}
use Rattle.fit_csv.specs.declared.from.open_file.Part.{Part}
use Rattle.fit_csv.specs.declared.from.open_file.Part.TheVariants.{Nothing, Definition, Message}

-- ---- definitions

-- a definition of which the first row has come
abbrev pub opened : DefinitionHead → OpenDefinition
opened h = record { head = h; fields = []; dev = [] }

abbrev pub with_field : OpenDefinition → FieldDef → OpenDefinition
with_field o f = record o { fields = o.fields ++ f ∷ [] }

abbrev pub with_dev_field : OpenDefinition → DevDef → OpenDefinition
with_dev_field o f = record o { dev = o.dev ++ f ∷ [] }

-- how many developer fields there will be
abbrev pub dev_total : DefinitionHead → ℕ
dev_total h = unwrap_or h.dev 0

abbrev pub is_whole : OpenDefinition → Bool
is_whole o = (length o.fields == o.head.fields) && (length o.dev == dev_total o.head)

-- the definition with the fields that have come
abbrev pub built_definition : OpenDefinition → MessageDef Global
built_definition o = record {
  local = o.head.local;
  reserved = o.head.reserved;
  order = o.head.order;
  global = o.head.global;
  fields = o.fields;
  dev = option_map (λ _. o.dev) o.head.dev;
}

-- one more row of a definition
abbrev pub FieldDefStep : OpenDefinition → Row → OpenDefinition → Type 0
FieldDefStep o r p = (length o.fields < o.head.fields) × ((f : FieldDef) × FieldDefInRange f × (r ≡ field_def_row f) × (p ≡ with_field o f))

abbrev pub DevDefStep : OpenDefinition → Row → OpenDefinition → Type 0
DevDefStep o r p = (length o.fields ≡ o.head.fields) × ((f : DevDef) × DevDefInRange f × (r ≡ dev_def_row f) × (p ≡ with_dev_field o f))

abbrev pub DefinitionStep : OpenDefinition → Row → OpenDefinition → Type 0
DefinitionStep o r p = FieldDefStep o r p ⊎ DevDefStep o r p

-- ---- data messages after records, latest first

abbrev pub with_items : Values Global → Items Global → Values Global
with_items v i = record v { fields = v.fields ++ i ∷ [] }

abbrev pub with_dev_items : Values Global → Items Global → Values Global
with_dev_items v i = record v { dev = v.dev ++ i ∷ [] }

abbrev pub has_all : Values Global → Defined Global → Bool
has_all v p = (length v.fields == length p.definition.fields) && (length v.dev == length (dev_defs p.definition.dev))

abbrev pub is_whole_message : List (Record Global) → Values Global → Bool
is_whole_message before v = option_map_or (has_all v) (defined_at (known before) v.local) true

-- there are no more fields than are defined
abbrev pub HasRoom : List (Record Global) → Values Global → Type 0
HasRoom before v = IfSome (defined_at (known before) v.local) (λ p. length v.fields ≤ length p.definition.fields)

-- one more row of a data message of this definition
abbrev pub FieldStep : Defined Global → Values Global → Row → Values Global → Type 0
FieldStep p v r w =
    IsSomeAnd (slice_get p.definition.fields (length v.fields)) (λ f.
    (i : Items Global) × HasShape f.code f.size i × (r ≡ field_row p.definition.global f i) × (w ≡ with_items v i))

abbrev pub DevStep : List (Record Global) → Defined Global → Values Global → Row → Values Global → Type 0
DevStep before p v r w =
    (length v.fields ≡ length p.definition.fields) × IsSomeAnd (slice_get (dev_defs p.definition.dev) (length v.dev)) (λ f.
    IsSomeAnd (slice_get p.dev_codes (length v.dev)) (λ code.
    (i : Items Global) × HasShape code f.size i × (r ≡ dev_row f code (naming_at before v.local (length v.dev)) i) × (w ≡ with_dev_items v i)))

abbrev pub MessageStep : List (Record Global) → Values Global → Row → Values Global → Type 0
MessageStep before v r w = IsSomeAnd (defined_at (known before) v.local) (λ p. FieldStep p v r w ⊎ DevStep before p v r w)

-- ---- files

-- a record is whole
abbrev pub with_record : OpenFile → Record Global → OpenFile
with_record f r = record { header = f.header; records = f.records ++ r ∷ []; before = r ∷ f.before; part = Nothing }

-- a file of which this part of a record has come, or all of it
abbrev pub settled : OpenFile → Part → OpenFile
settled f Nothing = record f { part = Nothing }
settled f (Definition o) = if is_whole o then with_record f (Define (built_definition o)) else record f { part = Definition o }
settled f (Message v) = if is_whole_message f.before v then with_record f (Data v) else record f { part = Message v }

-- the first row of a record
abbrev pub HeadStep : Row → Part → Type 0
HeadStep r p = (h : DefinitionHead) × HeadInRange h × (r ≡ head_row h) × (p ≡ Definition (opened h))

abbrev pub StartStep : List (Record Global) → Row → Part → Type 0
StartStep before r p = (v : Values Global) × IsMessageStart before v × (r ≡ message_row before v) × (p ≡ Message v)

-- one more row of a record
abbrev pub PartStep : List (Record Global) → Part → Row → Part → Type 0
PartStep before Nothing r p = HeadStep r p ⊎ StartStep before r p
PartStep before (Definition o) r p = (q : OpenDefinition) × DefinitionStep o r q × (p ≡ Definition q)
PartStep before (Message v) r p = (w : Values Global) × MessageStep before v r w × (p ≡ Message w)

abbrev pub FileStep : OpenFile → Row → OpenFile → Type 0
FileStep f r g = (p : Part) × PartStep f.before f.part r p × (g ≡ settled f p)

-- what can stand there: that, or the end of the file
abbrev pub CanStandNext : List (Record Global) → Part → Row → Type 0
CanStandNext before part r = ((p : Part) × PartStep before part r p) ⊎ ((part ≡ Nothing) × (r ≡ end_row))

-- there is room for one more row of the record
abbrev pub PartHasRoom : List (Record Global) → Part → Type 0
PartHasRoom before Nothing = Unit {0}
PartHasRoom before (Definition o) = length o.fields ≤ o.head.fields
PartHasRoom before (Message v) = HasRoom before v

-- the record fits once it is whole
abbrev pub FitsOnceWhole : List (Record Global) → Part → Type 0
FitsOnceWhole before Nothing = Unit {0}
FitsOnceWhole before (Definition o) = is_whole o ≡ true → DefinitionFits (built_definition o)
FitsOnceWhole before (Message v) = is_whole_message before v ≡ true → IsSomeAnd (defined_at (known before) v.local) (DataFits v)

-- ---- chains

-- a file of which the first row has come
abbrev pub file_begun : Header → OpenFile
file_begun h = record { header = h; records = []; before = []; part = Nothing }

-- the file is whole
abbrev pub with_file : Chain → OpenFile → Chain
with_file c f = record { files = c.files ++ record { header = f.header; records = f.records } ∷ []; current = None }

abbrev pub EndStep : Chain → OpenFile → Row → Chain → Type 0
EndStep c f r t = (f.part ≡ Nothing) × (r ≡ end_row) × (t ≡ with_file c f)

abbrev pub OpenStep : Chain → Option OpenFile → Row → Chain → Type 0
OpenStep c None r t = (length c.files < chain_limit) × ((h : Header) × HeaderInRange h × (r ≡ file_row h) × (t ≡ record c { current = Some (file_begun h) }))
OpenStep c (Some f) r t = EndStep c f r t ⊎ ((g : OpenFile) × FileStep f r g × (t ≡ record c { current = Some g }))

-- one more row of a chain
abbrev pub ChainStep : Chain → Row → Chain → Type 0
ChainStep c r t = OpenStep c c.current r t

-- rows one after another
unfoldable pub Run : Chain → List Row → Chain → Type 0
Run c [] t = c ≡ t
Run c (r ∷ rows) t = (m : Chain) × ChainStep c r m × Run m rows t

-- after the first line
abbrev pub nothing_yet : Chain
nothing_yet = record { files = []; current = None }
