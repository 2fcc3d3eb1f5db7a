-- Some messages of a chain, put in their order, as a reader is told them.
use Rattle.std.proofs.Common.{◌≡◌, ◌∙◌, inl, inr, ℕ, List, [], ◌∷◌, ◌++◌, refl, sym, subst, append_assoc}
use Rattle.std.proofs.lemmas.List.{append-nil}
use Rattle.std.specs.Global.{Global}
use Rattle.std.specs.List.{AllByRecursion}
use Rattle.std.specs.Prelude.{map, zip}
use Rattle.fit_record.specs.declared.message.Record.{Record}
use Rattle.fit_writer.proofs.AllRead.{put_is_read}
use Rattle.fit_writer.proofs.HeardChains.{what_is_said_was_told}
use Rattle.fit_writer.specs.Describing.{IsDescribing}
use Rattle.fit_writer.specs.Laws.{IsSelection, PartsReadAsRead, PutsInOrder, WithDescriptions, chain_heard, chain_readings, message_blocks}
use Rattle.fit_writer.specs.Reading.{AllReadAs, Reading, form_in, readings, said_reading}

-- a message's block and that of its definition say this
abbrev Says : (List ℕ × List ℕ) × Reading → Type 0
Says m = said_reading (form_in m.0.0) m.0.1 ≡ m.1

all_say : (blocks : List (List ℕ × List ℕ)) → AllByRecursion Says (zip blocks (map (λ m. said_reading (form_in m.0) m.1) blocks))
all_say [] = tt
all_say (m ∷ blocks) = (refl, all_say blocks)

part_of : {X : Type 0} (P : X → Type 0) (part all : List X) → IsSelection part all → AllByRecursion P all → AllByRecursion P part
part_of P [] all is each = tt
part_of P (x ∷ part) [] is each = absurd is
part_of P (x ∷ part) (y ∷ all) (inl (same, is)) each = (subst P (sym same) each.0, part_of P part all is each.1)
part_of P (x ∷ part) (y ∷ all) (inr is) each = part_of P (x ∷ part) all is each.1

-- those that were added before the first
describing_first : (added part all : List Reading) (r : Reading) → AllByRecursion IsDescribing added → WithDescriptions part all
    → WithDescriptions (r ∷ part) (added ++ r ∷ all)
describing_first [] part all r each is = inl (refl, is)
describing_first (s ∷ added) part all r each is = inr (each.0, describing_first added part all r each.1 is)

-- These messages are read after those, with others that describe developer fields.
abbrev ReadWith : List Reading → List Reading → List (Record Global) → Type 0
ReadWith puts part after = (all : List Reading) × WithDescriptions part all × AllReadAs (puts ++ all) (readings after)

all_read : (part : List ((List ℕ × List ℕ) × Reading)) → AllByRecursion Says part → (before after : List (Record Global)) (puts : List Reading)
    → AllReadAs puts (readings before) → PutsInOrder before after (map (λ m. m.0) part) → ReadWith puts (map (λ m. m.1) part) after
all_read [] each before after puts told same = (
  [],
  tt,
  subst (λ rs. AllReadAs (puts ++ []) (readings rs)) (sym same) (subst (λ ps. AllReadAs ps (readings before)) (sym (append-nil puts)) told),
)
all_read (m ∷ part) each before after puts told (between, put, others) =
    let (added, describe, more, now) = put_is_read before between puts (form_in m.0.0) m.0.1 told put in
    let read : AllReadAs (puts ++ added ++ m.1 ∷ []) (readings between) =
    subst (λ r. AllReadAs (puts ++ added ++ r ∷ []) (readings between)) each.0 now in
    go added describe (all_read part each.1 between after (puts ++ added ++ m.1 ∷ []) read others)
  where
    joined : (added all : List Reading) → (puts ++ added ++ m.1 ∷ []) ++ all ≡ puts ++ (added ++ m.1 ∷ all)
    joined added all = append_assoc (puts ++ added) (m.1 ∷ []) all ∙ append_assoc puts added (m.1 ∷ all)

    go : (added : List Reading) → AllByRecursion IsDescribing added → ReadWith (puts ++ added ++ m.1 ∷ []) (map (λ m. m.1) part) after
        → ReadWith puts (m.1 ∷ map (λ m. m.1) part) after
    go added describe (all, is, read) = (
      added ++ m.1 ∷ all,
      describing_first added (map (λ m. m.1) part) all m.1 describe is,
      subst (λ ps. AllReadAs ps (readings after)) (joined added all) read,
    )

pub parts_read_as_read : PartsReadAsRead
parts_read_as_read files bytes are chain part is before after puts told put =
    let blocks = message_blocks (chain_heard files) in
    let each : AllByRecursion Says (zip blocks (chain_readings files)) =
    subst (λ rs. AllByRecursion Says (zip blocks rs)) (what_is_said_was_told files bytes are chain) (all_say blocks) in
    all_read part (part_of Says part (zip blocks (chain_readings files)) is each) before after puts told put
