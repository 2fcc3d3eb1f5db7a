-- Developer fields that are described in a file that has begun. No public contract names these.
use Rattle.std.specs.Prelude.{◌≡◌, ◌⊎◌, ◌≤◌, ◌^◌, ℕ, true, List, Option, IfSome, zip, map, length}
use Rattle.std.specs.List.{AllByRecursion, list_all}
use Rattle.std.specs.Global.{Global}
use Rattle.fit_record.specs.declared.definition.DevDef.{DevDef}
use Rattle.fit_record.specs.declared.definition.MessageDef.{MessageDef}
use Rattle.fit_record.specs.declared.message.Record.{Record}
use Rattle.fit_from_messages.specs.Parts.{entries_of, entry_stands}
use Rattle.fit_writer.specs.Describing.{CanBeDescribed, CanBeSaid, DescribesSome, DevField, IsAlike, IsDescribedField, IsOfDescriptions, dev_fields}
use Rattle.fit_writer.specs.Reading.{Form, entry_naming}
use Rattle.fit_writer.specs.Written.{data_length, with_definition}
use Rattle.fit_writer.specs.declared.describing.Listed.{Listed}
use Rattle.fit_writer.specs.declared.describing.Wanted.{Wanted}
use Rattle.fit_writer.specs.declared.file.OpenFile.{OpenFile}
use Rattle.fit_writer.specs.declared.refusal.Refusal.{Refusal}
use Rattle.fit_writer.specs.declared.refusal.Refusal.TheVariants.{Described, NoMemory, TooLong}
use Rattle.fit_writer.specs.inner.OpenFiles.{current_of, current_with}

-- The file has become one of which this holds.
abbrev pub Becomes : OpenFile → OpenFile → (List (Record Global) → List (Record Global) → Type 0) → Type 0
Becomes old new P = (after : List (Record Global)) × P old.stream after × (current_of new ≡ current_with old after)

-- the developer fields of these codes and entries
abbrev pub entry_fields : List DevDef → List ℕ → List (List ℕ) → List DevField
entry_fields devs codes entries = zip devs (zip codes (map entry_naming entries))

-- those that are listed_fields, and what one of them is to have
abbrev pub listed_fields : Listed → List DevField
listed_fields l = entry_fields l.fields.now l.codes.now (entries_of (length l.fields.now) l.entries.now)

abbrev pub wanted : Wanted → DevField
wanted w = (w.field, (w.code, entry_naming w.said.now))

-- There is a code and an entry for each.
pub record IsListed (l : Listed) : Type 0 where
  pub stand : list_all (entry_stands 1) (entries_of (length l.fields.now) l.entries.now) ≡ true
  pub many : length l.codes.now ≡ length l.fields.now

-- Each is described or can be, and alike to all of its index and number.
abbrev pub AreDescribable : List (Record Global) → List DevField → Type 0
AreDescribable before xs = AllByRecursion (λ x. (IsDescribedField before x ⊎ CanBeSaid x.1) × AllByRecursion (IsAlike x) xs) xs

-- Developer fields aren't all described: there is no more room, or memory was refused. Some may be.
abbrev pub IsHalfDescribed : OpenFile → OpenFile → (List (Record Global) → List (Record Global) → Type 0) → Refusal → Type 0
IsHalfDescribed old new may TooLong =
    Becomes old new may × ((after : List (Record Global)) × may old.stream after × (2 ^ 32 ≤ data_length after))
IsHalfDescribed old new may NoMemory =
    (defined : Option (MessageDef Global)) × IfSome defined IsOfDescriptions
    × ((after : List (Record Global)) × may old.stream after × (current_of new ≡ current_with old (with_definition defined after)))
IsHalfDescribed old new may _ = ⊥

-- The same of the form of a definition; or it can't be described, and nothing has changed.
abbrev pub IsUndescribed : OpenFile → OpenFile → Form → Refusal → Type 0
IsUndescribed old new f Described = (CanBeDescribed old.stream f → ⊥) × (current_of new ≡ current_of old)
IsUndescribed old new f why = IsHalfDescribed old new (λ before after. DescribesSome before after (dev_fields f)) why
