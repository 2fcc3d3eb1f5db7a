-- Blocks have one finding at most.
use Rattle.std.proofs.Common.{◌≡◌, ◌∙◌, ◌⊎◌, inl, inr, ℕ, List, refl, sym, ap, subst}
use Rattle.std.specs.Global.{Global}
use Rattle.std.specs.Prelude.{Ok, Err}
use Rattle.fit_encode.specs.Faults.{IsFirstFault}
use Rattle.fit_encode.specs.Laws.{FaultsAreOne, GoodChainsHaveNoFault}
use Rattle.fit_encode.specs.declared.fault.EncodeFault.{EncodeFault}
use Rattle.fit_encode.specs.declared.fault.EncodeFault.TheVariants as encode
use Rattle.fit_record.specs.Files.{chain_bytes}
use Rattle.fit_record.specs.declared.file.FitFile.{FitFile}
use Rattle.fit_from_messages.proofs.OneReading.{one_refusal, says_one, says_or_refused}
use Rattle.fit_from_messages.specs.FromBlocks.{AreBlocksOf, AreUnwritable, AreWrong}
use Rattle.fit_from_messages.specs.Laws.{BlocksHaveOneFinding}
use Rattle.fit_from_messages.specs.SaysChain.{IsRefusedBlock}
use Rattle.fit_from_messages.specs.declared.fault.BlockReason.{BlockReason}
use Rattle.fit_from_messages.specs.declared.fault.BlocksFault.{BlocksFault}
use Rattle.fit_from_messages.specs.declared.fault.BlocksFault.TheVariants.{Block, Encode}

record Refused (blocks : List ℕ) (fault : BlocksFault) : Type 0 where
  number : ℕ
  place : ℕ
  reason : BlockReason
  refused : IsRefusedBlock blocks number place reason
  is : fault ≡ Block number place reason

record Unwritable (blocks : List ℕ) (fault : BlocksFault) : Type 0 where
  reason : EncodeFault
  unwritable : AreUnwritable blocks reason
  is : fault ≡ Encode reason

abbrev Wrong : List ℕ → BlocksFault → Type 0
Wrong blocks fault = Refused blocks fault ⊎ Unwritable blocks fault

wrong : (blocks : List ℕ) (fault : BlocksFault) → AreWrong blocks fault → Wrong blocks fault
wrong blocks (Block number place reason) h = inl (record { number = number; place = place; reason = reason; refused = h; is = refl })
wrong blocks (Encode (encode.TooLong file index)) h = inr (record { reason = encode.TooLong file index; unwritable = h; is = refl })
wrong blocks (Encode (encode.ZeroIsSum file)) h = inr (record { reason = encode.ZeroIsSum file; unwritable = h; is = refl })
wrong blocks fault h = absurd h

one_refused : (blocks : List ℕ) (a b : BlocksFault) → Refused blocks a → Refused blocks b → a ≡ b
one_refused blocks a b h k =
    let one = one_refusal blocks h.number k.number h.place k.place h.reason k.reason h.refused k.refused in
    h.is ∙ (λ i. Block (one.0 i) (one.1 i) (one.2 i)) ∙ sym k.is

none_refused : (blocks : List ℕ) (a b : BlocksFault) → Refused blocks a → Unwritable blocks b → ⊥
none_refused blocks a b h k = go k.unwritable where
  go : AreUnwritable blocks k.reason → ⊥
  go (files, says, bad) = says_or_refused blocks files h.number h.place h.reason says h.refused

module _ (one : FaultsAreOne Global) (blocks : List ℕ) where
  one_unwritable : (a b : BlocksFault) → Unwritable blocks a → Unwritable blocks b → a ≡ b
  one_unwritable a b h k = h.is ∙ ap Encode (go h.unwritable k.unwritable) ∙ sym k.is where
    go : AreUnwritable blocks h.reason → AreUnwritable blocks k.reason → h.reason ≡ k.reason
    go (files, says, bad) (others, tell, worse) =
        one files h.reason k.reason bad
        (subst (λ (fs : List (FitFile Global)). IsFirstFault fs k.reason) (sym (says_one blocks files others says tell)) worse)

  one_wrong : (a b : BlocksFault) → Wrong blocks a → Wrong blocks b → a ≡ b
  one_wrong a b (inl h) (inl k) = one_refused blocks a b h k
  one_wrong a b (inl h) (inr k) = absurd (none_refused blocks a b h k)
  one_wrong a b (inr h) (inl k) = absurd (none_refused blocks b a k h)
  one_wrong a b (inr h) (inr k) = one_unwritable a b h k

module _ (good : GoodChainsHaveNoFault Global) (blocks : List ℕ) (files : List (FitFile Global)) (bytes : List ℕ) (h : AreBlocksOf blocks files bytes) where
  nothing_wrong : (fault : BlocksFault) → Wrong blocks fault → ⊥
  nothing_wrong fault (inl k) = says_or_refused blocks files k.number k.place k.reason h.says k.refused
  nothing_wrong fault (inr k) = go k.unwritable where
    go : AreUnwritable blocks k.reason → ⊥
    go (others, says, bad) =
        good files k.reason h.chain.0 (subst (λ (fs : List (FitFile Global)). IsFirstFault fs k.reason) (says_one blocks others files says h.says) bad)

same_bytes : (blocks : List ℕ) (files others : List (FitFile Global)) (a b : List ℕ) → AreBlocksOf blocks files a → AreBlocksOf blocks others b → a ≡ b
same_bytes blocks files others a b h k = h.chain.1 ∙ ap chain_bytes (says_one blocks files others h.says k.says) ∙ sym k.chain.1

pub one_finding : GoodChainsHaveNoFault Global → FaultsAreOne Global → BlocksHaveOneFinding
one_finding good one blocks (Ok a) (Ok b) (files, h) (others, k) = ap Ok (same_bytes blocks files others a b h k)
one_finding good one blocks (Ok a) (Err fault) (files, h) k = absurd (nothing_wrong good blocks files a h fault (wrong blocks fault k))
one_finding good one blocks (Err fault) (Ok b) h (files, k) = absurd (nothing_wrong good blocks files b k fault (wrong blocks fault h))
one_finding good one blocks (Err a) (Err b) h k = ap Err (one_wrong one blocks a b (wrong blocks a h) (wrong blocks b k))
