-- Blocks that are read one after another.
use Rattle.std.proofs.Common.{◌≡◌, ◌∙◌, ℕ, ◌+◌, ◌-◌, ◌<◌, Bool, true, false, cond, List, [], ◌∷◌, ◌++◌, length, refl, sym, ap, subst, arith, append_assoc}
use Rattle.std.proofs.Common.{length-append}
use Rattle.std.proofs.lemmas.List.{append-nil}
use Rattle.std.proofs.lemmas.Grind.{flat_map-append}
use Rattle.std.specs.Prelude.{◌==◌, not, nat_lt, is_none, Option, Some, None, option_map}
use Rattle.std.specs.List.{list_all}
use Rattle.fit_from_messages.proofs.OneReading.{no_block}
use Rattle.fit_from_messages.specs.SaysChain.{Begun, CannotGoOn, IsBlock, IsRefusedBlock, Said, Say, after, joined_blocks, nothing_said, reason}
use Rattle.fit_from_messages.specs.FromBlocks.{BeginAFile}
use Rattle.fit_from_messages.specs.SaysChain.{SaysChain, begun_by, reason_in, slots_at, why_no_definition, why_no_message, known_to}
use Rattle.fit_record.specs.Environment.{defined_at}
use Rattle.fit_record.specs.declared.file.FitFile.{FitFile}
use Rattle.std.specs.Global.{Global}
use Rattle.fit_from_messages.specs.Parts.{byte_at, entries_stand, kind, local_stands, offset_stands, sizes_fit, slot_stands}
use Rattle.fit_from_messages.specs.declared.chain.Chain.{Chain}
use Rattle.fit_from_messages.specs.declared.fault.BlockReason.{BlockReason}
use Rattle.fit_from_messages.specs.declared.fault.BlockReason.TheVariants as why
use Rattle.fit_from_messages.specs.declared.file.OpenFile.{OpenFile}
use Rattle.fit_from_messages.specs.declared.misfit.Misfit.{Misfit}
use Rattle.fit_from_messages.specs.declared.misfit.Misfit.TheVariants as misfit
use Rattle.fit_from_messages.specs.inner.Chains.{AreSaid, HasSaid, IsUnreadBlock, IsGoodChain, IsGoodCurrent, fault_at, said_yet}
use Rattle.fit_from_messages.specs.Misfits.{IsMisfitBlock}
use Rattle.fit_from_messages.specs.inner.OpenFiles.{begun_of}

-- ---- one block more

say_more : (s t : Said) (blocks : List (List ℕ)) (block : List ℕ) → Say s blocks t → IsBlock block → reason t block ≡ None
    → Say s (blocks ++ block ∷ []) (after t block)
say_more s t [] block say is stands =
    (is, ap (λ x. reason x block) say ∙ stands, ap (λ x. after x block) say)
say_more s t (b ∷ blocks) block say is stands = (say.0, say.1, say_more (after s b) t blocks block say.2 is stands)

pub joined_more : (blocks : List (List ℕ)) (block left : List ℕ) → joined_blocks (blocks ++ block ∷ []) ++ left ≡ joined_blocks blocks ++ (block ++ left)
joined_more blocks block left =
    ap (λ x. x ++ left) (flat_map-append (λ (b : List ℕ). b) blocks (block ∷ [])
    ∙ ap (λ x. joined_blocks blocks ++ x) (append-nil block)) ∙ append_assoc (joined_blocks blocks) block left

pub one_said : (bytes rest block left : List ℕ) (n : ℕ) (c d : Chain) → HasSaid bytes rest n c → IsBlock block → rest ≡ block ++ left
    → reason (said_yet c) block ≡ None → said_yet d ≡ after (said_yet c) block → IsGoodChain d → HasSaid bytes left (n + 1) d
one_said bytes rest block left n c d h is begins stands then sound = record {
  blocks = h.blocks ++ block ∷ [];
  are_joined = h.are_joined ∙ ap (λ x. joined_blocks h.blocks ++ x) begins ∙ sym (joined_more h.blocks block left);
  say = subst (Say nothing_said (h.blocks ++ block ∷ [])) (sym then) (say_more nothing_said (said_yet c) h.blocks block h.say is stands);
  counted = omega (arith, h.counted, length-append h.blocks (block ∷ []));
  few = omega (arith, h.few, ap length begins, length-append block left, is.front);
  sound = sound;
}

pub shorter : (rest block left : List ℕ) → IsBlock block → rest ≡ block ++ left → length left < length rest
shorter rest block left is begins = omega (arith, ap length begins, length-append block left, is.front)

-- ---- blocks in which a file has begun

said_none : (c : Chain) → option_map begun_of c.current ≡ None → c.current ≡ None
said_none c none = go c.current none
  where
    go : (o : Option OpenFile) → option_map begun_of o ≡ None → o ≡ None
    go None e = refl
    go (Some f) e = cc e

begun_before : (bytes rest block left : List ℕ) (n : ℕ) (c : Chain) → HasSaid bytes rest n c → rest ≡ block ++ left → IsBlock block
    → (c.current ≡ None → ⊥) → BeginAFile bytes
begun_before bytes rest block left n c h begins is begun = go h.blocks h.say h.are_joined
  where
    go : (blocks : List (List ℕ)) → Say nothing_said blocks (said_yet c) → bytes ≡ joined_blocks blocks ++ rest → BeginAFile bytes
    go [] say joined = absurd (begun (said_none c (sym (ap (λ s. s.current) say))))
    go (b ∷ []) say joined = record {
      header = b;
      next = block;
      rest = left;
      are_joined = joined ∙ append_assoc b [] rest ∙ ap (λ x. b ++ x) begins;
      is_block = say.0;
      stands = say.1;
      is_next = is;
    }
    go (b ∷ (d ∷ blocks)) say joined = record {
      header = b;
      next = d;
      rest = joined_blocks blocks ++ rest;
      are_joined = joined ∙ append_assoc b (d ++ joined_blocks blocks) rest ∙ ap (λ x. b ++ x) (append_assoc d (joined_blocks blocks) rest);
      is_block = say.0;
      stands = say.1;
      is_next = say.2.0;
    }

-- a chain has a file, which has begun and ended
pub begun_in_chain : (blocks : List ℕ) (files : List (FitFile Global)) → SaysChain blocks files → BeginAFile blocks
begun_in_chain blocks files says = go says.blocks says.say says.are_joined
  where
    go : (each : List (List ℕ)) → Say nothing_said each (record { files = files; current = None }) → blocks ≡ joined_blocks each → BeginAFile blocks
    go [] say joined = absurd (omega (arith, says.some, ap (λ s. length s.files) say))
    go (b ∷ []) say joined = absurd (open_end (ap (λ s. s.current) say.2))
      where
        open_end : Some (begun_by b) ≡ None → ⊥
        open_end e = cc e
    go (b ∷ (d ∷ more)) say joined = record {
      header = b;
      next = d;
      rest = joined_blocks more;
      are_joined = joined;
      is_block = say.0;
      stands = say.1;
      is_next = say.2.0;
    }

-- ---- a block that can't stand where it is

pub refused : (bytes rest : List ℕ) (n place : ℕ) (c : Chain) (reason : BlockReason) → HasSaid bytes rest n c → place ≡ length bytes - length rest
    → CannotGoOn (said_yet c) rest reason → IsRefusedBlock bytes n place reason
refused bytes rest n place c reason h at wrong = record {
  blocks = h.blocks;
  rest = rest;
  said = said_yet c;
  are_joined = h.are_joined;
  say = h.say;
  counted = h.counted;
  at = omega (arith, at, ap length h.are_joined, length-append (joined_blocks h.blocks) rest);
  wrong = wrong;
}

-- no test of a block finds that it is cut
not_cut : (b : Bool) (x : BlockReason) (rest : Option BlockReason) → (x ≡ why.Cut → ⊥) → (rest ≡ Some why.Cut → ⊥) → cond b (Some x) rest ≡ Some why.Cut → ⊥
not_cut true x rest other others is = other (some_is x why.Cut is)
  where
    some_is : (a b : BlockReason) → Some a ≡ Some b → a ≡ b
    some_is a b e = cc e
not_cut false x rest other others is = others is

no_reason : None ≡ Some why.Cut → ⊥
no_reason e = cc e

never_in : (files : ℕ) (o : Option Begun) (block : List ℕ) → reason_in files o block ≡ Some why.Cut → ⊥
never_in files None block =
    not_cut _ why.Kind _ (λ e. cc e) (not_cut _ why.Header _ (λ e. cc e) no_reason)
never_in files (Some f) block =
    go (kind block == 2) (kind block == 3) (kind block == 4)
  where
    definition : why_no_definition f block ≡ Some why.Cut → ⊥
    definition =
        not_cut (not (nat_lt (byte_at 5 block) 16)) why.Local _ (λ e. cc e) (not_cut (not (nat_lt (byte_at 6 block) 2)) why.Architecture _ (λ e. cc e)
        (not_cut (not (entries_stand block)) why.Entries _ (λ e. cc e) (not_cut (not (sizes_fit (known_to f) block)) why.Size None (λ e. cc e) no_reason)))

    message : why_no_message f block ≡ Some why.Cut → ⊥
    message =
        not_cut (not (local_stands block)) why.Local _ (λ e. cc e) (not_cut (not (offset_stands block)) why.Offset _ (λ e. cc e)
        (not_cut (is_none (defined_at (known_to f) (byte_at 6 block))) why.Undefined _ (λ e. cc e)
        (not_cut (not (list_all (slot_stands block) (slots_at f (byte_at 6 block)))) why.Items None (λ e. cc e) no_reason)))

    go : (a b c : Bool) → cond a (why_no_definition f block) (cond b (why_no_message f block) (cond c None (Some why.Kind))) ≡ Some why.Cut → ⊥
    go true b c = definition
    go false true c = message
    go false false true = no_reason
    go false false false = λ e. cc e

never_cut : (s : Said) (block : List ℕ) → reason s block ≡ Some why.Cut → ⊥
never_cut s block = never_in (length s.files) s.current block

pub goes_wrong : (s : Said) (rest block left : List ℕ) (x : BlockReason) → rest ≡ block ++ left → IsBlock block → reason s block ≡ Some x
    → CannotGoOn s rest x
goes_wrong s rest block left why.Cut begins is bad = absurd (never_cut s block bad)
goes_wrong s rest block left x begins is bad = (block, left, begins, is, bad)

pub misfit_fault : (bytes rest block left : List ℕ) (n place : ℕ) (c : Chain) (m : Misfit) → HasSaid bytes rest n c → place ≡ length bytes - length rest
    → rest ≡ block ++ left → IsBlock block → IsMisfitBlock (reason (said_yet c) block) m → (m ≡ misfit.NoMemory → c.current ≡ None → ⊥)
    → IsUnreadBlock bytes (fault_at n place m)
misfit_fault bytes rest block left n place c (misfit.Block x) h at begins is bad memory =
    refused bytes rest n place c x h at (goes_wrong (said_yet c) rest block left x begins is bad)
misfit_fault bytes rest block left n place c misfit.NoMemory h at begins is bad memory = begun_before bytes rest block left n c h begins is (memory refl)

pub cut_here : (bytes rest : List ℕ) (n place : ℕ) (c : Chain) → HasSaid bytes rest n c → place ≡ length bytes - length rest → 0 < length rest
    → ((block more : List ℕ) → rest ≡ block ++ more → IsBlock block → ⊥) → IsRefusedBlock bytes n place why.Cut
cut_here bytes rest n place c h at some none = refused bytes rest n place c why.Cut h at (none, λ empty _ _. omega (arith, some, ap length empty))

-- ---- the end

none_left : (rest : List ℕ) → length rest ≡ 0 → rest ≡ []
none_left [] empty = refl
none_left (b ∷ rest) empty = absurd (omega (arith, empty))

pub cut_off : (bytes rest : List ℕ) (n : ℕ) (c : Chain) → HasSaid bytes rest n c → length rest ≡ 0
    → (c.current ≡ None → 0 < length c.files → ⊥) → IsRefusedBlock bytes n (length bytes) why.Cut
cut_off bytes rest n c h empty unfinished =
    refused bytes rest n (length bytes) c why.Cut h (omega (arith, empty))
    (subst (λ r. CannotGoOn (said_yet c) r why.Cut) (sym (none_left rest empty))
    ((λ block more e is. no_block block more is e), λ _ none some. unfinished (said_none c none) some))

pub all_said : (bytes rest : List ℕ) (n : ℕ) (c : Chain) → HasSaid bytes rest n c → length rest ≡ 0 → c.current ≡ None → 0 < length c.files
    → AreSaid bytes c.files
all_said bytes rest n c h empty none some = record {
  says = record {
    blocks = h.blocks;
    are_joined = h.are_joined ∙ ap (λ x. joined_blocks h.blocks ++ x) (none_left rest empty) ∙ append-nil (joined_blocks h.blocks);
    say = subst (Say nothing_said h.blocks) (ap (λ (o : Option OpenFile). record { files = c.files; current = option_map begun_of o }) none) h.say;
    some = some;
  };
  each = h.sound.files;
  few = subst (IsGoodCurrent (length c.files)) none h.sound.current;
}
