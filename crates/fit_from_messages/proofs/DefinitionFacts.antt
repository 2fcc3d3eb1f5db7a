-- Blocks of definitions as they are read.
use Rattle.std.proofs.Common.{◌≡◌, ℕ, Bool, true, false, List, [], ◌∷◌, ◌++◌, refl, sym, ap, ◌∙◌}
use Rattle.std.proofs.lemmas.Bool.{true≢false}
use Rattle.std.proofs.Math.Bool.{and-false}
use Rattle.std.proofs.lemmas.List.{map-append, take-append-drop}
use Rattle.std.specs.Prelude.{◌&&◌, ◌==◌, map, nat_lt, Some}
use Rattle.std.specs.List.{list_all}
use Rattle.fit_base.specs.BaseTypes.{item_width}
use Rattle.fit_record.specs.Environment.{dev_code}
use Rattle.fit_from_messages.specs.declared.fault.BlockReason.TheVariants.{Size}
use Rattle.fit_from_messages.specs.declared.misfit.Misfit.{Misfit}
use Rattle.fit_from_messages.specs.declared.misfit.Misfit.TheVariants.{Block, NoMemory}
use Rattle.fit_from_messages.specs.declared.slot.Slot.{Slot}
use Rattle.fit_from_messages.specs.Parts.{byte_at, dev_entries, dev_in, block_entries, entries_stand, entry_size, field_count, field_entries}
use Rattle.fit_from_messages.specs.Parts.{size_fits, slot_in, slots_in}
use Rattle.fit_from_messages.specs.Alone.{why_no_parts}
use Rattle.fit_from_messages.specs.SaysChain.{Begun, why_no_definition, known_to}
use Rattle.fit_from_messages.specs.inner.Cutting.{is_small}
use Rattle.fit_from_messages.specs.Misfits.{FailsBy, IsMisfitBlock}

-- a size that has no byte doesn't fit
large_fails : (code : List ℕ → ℕ) (es : List (List ℕ)) → list_all is_small es ≡ false → list_all (λ e. size_fits (code e) e) es ≡ false
large_fails code [] fails = absurd (true≢false fails)
large_fails code (e ∷ es) fails = go (is_small e) refl (large_fails code es)
  where
    go : (b : Bool) → is_small e ≡ b
        → (list_all is_small es ≡ false → list_all (λ e. size_fits (code e) e) es ≡ false)
        → list_all (λ e. size_fits (code e) e) (e ∷ es) ≡ false
    go true is others =
        ap (λ b. (b && (item_width (code e) (entry_size e) == byte_at 9 e)) && list_all (λ e. size_fits (code e) e) es) is
        ∙ ap (λ b. (item_width (code e) (entry_size e) == byte_at 9 e) && b) (others (sym (ap (λ b. b && list_all is_small es) is) ∙ fails))
        ∙ and-false (item_width (code e) (entry_size e) == byte_at 9 e)
    go false is others =
        ap (λ b. (b && (item_width (code e) (entry_size e) == byte_at 9 e)) && list_all (λ e. size_fits (code e) e) es) is

-- the reason, where all else stands
size_reason : (f : Begun) (block : List ℕ) → nat_lt (byte_at 5 block) 16 ≡ true → nat_lt (byte_at 6 block) 2 ≡ true → entries_stand block ≡ true
    → list_all is_small (dev_entries block) ≡ false → why_no_definition f block ≡ Some Size
size_reason f block local architecture stand fails =
    let dev = large_fails (λ e. dev_code (known_to f) (dev_in e)) (dev_entries block) fails in
    let fields : Bool = list_all (λ e. size_fits (byte_at 7 e) e) (field_entries block) in
    let no_sizes = ap (λ b. fields && b) dev ∙ and-false fields in
    rw (local, architecture, stand, no_sizes) refl

pub dev_misfit : (f : Begun) (block : List ℕ) (es : List (List ℕ)) (misfit : Misfit) → nat_lt (byte_at 5 block) 16 ≡ true → nat_lt (byte_at 6 block) 2 ≡ true
    → entries_stand block ≡ true → es ≡ dev_entries block → FailsBy Size (list_all is_small es) misfit → IsMisfitBlock (why_no_definition f block) misfit
dev_misfit f block es (Block why) local architecture stand are fails =
    size_reason f block local architecture stand (ap (list_all is_small) (sym are) ∙ fails.1) ∙ ap Some (sym fails.0)
dev_misfit f block es NoMemory local architecture stand are fails = tt

-- the same of the block by itself
pub lone_misfit : (block : List ℕ) (es : List (List ℕ)) (misfit : Misfit) → nat_lt (byte_at 5 block) 16 ≡ true → nat_lt (byte_at 6 block) 2 ≡ true
    → entries_stand block ≡ true → es ≡ dev_entries block → FailsBy Size (list_all (λ e. size_fits (byte_at 7 e) e) es) misfit
    → IsMisfitBlock (why_no_parts block) misfit
lone_misfit block es (Block why) local architecture stand are fails =
    let dev : list_all (λ e. size_fits (byte_at 7 e) e) (dev_entries block) ≡ false =
    ap (list_all (λ e. size_fits (byte_at 7 e) e)) (sym are) ∙ fails.1 in
    let fields : Bool = list_all (λ e. size_fits (byte_at 7 e) e) (field_entries block) in
    let no_sizes = ap (λ b. fields && b) dev ∙ and-false fields in
    rw (local, architecture, stand, no_sizes) (ap Some (sym fails.0))
lone_misfit block es NoMemory local architecture stand are fails = tt

pub small_misfit : (block : List ℕ) (es : List (List ℕ)) (misfit : Misfit) → nat_lt (byte_at 5 block) 16 ≡ true → nat_lt (byte_at 6 block) 2 ≡ true
    → entries_stand block ≡ true → es ≡ dev_entries block → FailsBy Size (list_all is_small es) misfit → IsMisfitBlock (why_no_parts block) misfit
small_misfit block es (Block why) local architecture stand are fails =
    lone_misfit block es (Block why) local architecture stand are (fails.0, large_fails (byte_at 7) es fails.1)
small_misfit block es NoMemory local architecture stand are fails = tt

pub all_slots : (block : List ℕ) (fields dev : List (List ℕ)) (none some all : List Slot) → none ≡ [] → fields ≡ field_entries block → dev ≡ dev_entries block
    → some ≡ none ++ map slot_in fields → all ≡ some ++ map slot_in dev → all ≡ slots_in block
all_slots block fields dev none some all empty are are_dev first then =
    then ∙ ap (λ xs. xs ++ map slot_in dev) (first ∙ ap (λ xs. xs ++ map slot_in fields) empty) ∙ sym (map-append slot_in fields dev)
    ∙ ap (λ es. map slot_in (es ++ dev)) are ∙ ap (λ es. map slot_in (field_entries block ++ es)) are_dev
    ∙ ap (map slot_in) (take-append-drop (field_count block) (block_entries block))
