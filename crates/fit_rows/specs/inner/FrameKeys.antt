-- What stands around the values in the rows of a message. No public contract names these definitions.
use Rattle.std.specs.Prelude.{ℕ, List, [], ◌∷◌, ◌++◌, Option, None, codes, decimal, map, option_map, unwrap_or, zip}
use Rattle.csv.specs.Writing.{default_writer, field_text}
use Rattle.fit_base.specs.declared.items.Items.{Items}
use Rattle.fit_record.specs.declared.definition.FieldDef.{FieldDef}
use Rattle.fit_profile.specs.Names.{field, field_label, message_label}
use Rattle.fit_profile.specs.Profile.{Meaning}
use Rattle.fit_cells.specs.Cells.{cell}
use Rattle.fit_cells.specs.Rows.{Cell, Row}
use Rattle.fit_texts.specs.Words.{optional_number, unit_text}
use Rattle.fit_rows.specs.ChainRows.{row}
use Rattle.fit_texts.specs.InstantText.{instant_text}
use Rattle.fit_texts.specs.MessageKeys.{DevKey, MessageKey}
use Rattle.fit_shown.specs.Frames.{two_cells, FrameText}

-- The row of a value: its kind, the name and the unit of the value, and by which base type code, size in bytes and scale the value is read.
pub record FrameKey : Type 0 where
  pub kind : Cell
  pub name : Cell
  pub unit : Cell
  pub code : ℕ
  pub size : ℕ
  pub info : Option Meaning

abbrev pub value_row : {A : Type 0} → FrameKey → Items A → Row
value_row k i = row k.kind k.name (cell k.code k.info i) k.unit [] [] []

-- a field of a message of a global number
abbrev pub field_key : ℕ → FieldDef → FrameKey
field_key global f = record {
  kind = codes "field";
  name = field_label global f.number;
  unit = unit_text (field global f.number);
  code = f.code;
  size = f.size;
  info = field global f.number;
}

-- the row of a developer field
abbrev pub dev_frame_key : DevKey → FrameKey
dev_frame_key d = record { kind = codes "dev"; name = d.name; unit = d.unit; code = d.code; size = d.size; info = None }

-- what stands before the value in its row
abbrev pub head_text : FrameKey → List ℕ
head_text k = two_cells k.kind k.name

-- what stands after it
abbrev pub tail_text : FrameKey → List ℕ
tail_text k = two_cells [] k.unit ++ codes ",,\n"

abbrev pub frame_text : List ℕ → FrameKey → FrameText
frame_text before k = record { between = before ++ head_text k; code = k.code; size = k.size; info = k.info }

-- the same of rows one after another, the first of them after a row with this end
abbrev pub frames_of : List ℕ → List FrameKey → List FrameText
frames_of before [] = []
frames_of before (k ∷ keys) = frame_text before k ∷ frames_of (tail_text k) keys

-- the end of the last of these rows
abbrev pub end_of : List ℕ → List FrameKey → List ℕ
end_of before [] = before
end_of before (k ∷ keys) = end_of (tail_text k) keys

-- the text of values, each after what stands before it, and this end after the last
abbrev pub values_text : {A : Type 0} → List FrameText → List ℕ → List (Items A) → List ℕ
values_text (f ∷ frames) end (i ∷ items) = f.between ++ (field_text default_writer (cell f.code f.info i) ++ values_text frames end items)
values_text _ end _ = end

-- the rows of the fields and of the developer fields
abbrev pub frame_keys : MessageKey → List FrameKey
frame_keys k = map (field_key k.own.global) k.own.fields ++ map dev_frame_key k.devs

-- their base type codes and sizes
abbrev pub frame_shapes : MessageKey → List (ℕ × ℕ)
frame_shapes k = map (λ f. (f.code, f.size)) (frame_keys k)

-- rows by the items of their values
abbrev pub value_rows : {A : Type 0} → List FrameKey → List (Items A) → List Row
value_rows keys items = map (λ x. value_row x.0 x.1) (zip keys items)

-- all rows of a message by its time offset, the time of its header, and the items of its fields and its developer fields
abbrev pub key_rows : {A : Type 0} → MessageKey → Option ℕ → Option ℕ → List (Items A) → List Row
key_rows k offset time items =
    row (codes "data") (decimal k.own.local) (optional_number offset) (message_label k.own.global) (unwrap_or (option_map instant_text time) []) [] []
    ∷ value_rows (frame_keys k) items
