-- The bytes that have come are a chain exactly where files have ended, and no byte has come of a next one.
use Rattle.fit_decode.proofs.Common.{◌≡◌, ℕ, ◌<◌, ◌≤◌, List, [], ◌++◌, length, refl, sym, ap, ◌∙◌, subst, arith, append-nil, FitFile, chain_bytes, chain_limit}
use Rattle.fit_decode.proofs.Common.{Section, Data, ClosingSum, Progress, at_header, at_data, HasCome, files_begun, AreChain, Fields, InHeader, Holds, HoldsAt}
use Rattle.fit_decode.proofs.Common.{one_place, chain_come, Latched, refusal_of, None}
use Rattle.fit_frame.specs.Beginning.{Seen}
use Rattle.fit_decode.specs.declared.section.Section.TheVariants.{Header}

abbrev pub HasEnded : {A : Type 0} → Fields A → Type 0
HasEnded d = (d.stage.section ≡ Header) × (0 < d.stage.files) × (d.reader.bytes ≡ [])

module _ {A : Type 0} (d : Fields A) (bytes : List ℕ) where
  pub ended_chain : Holds d bytes → HasEnded d → AreChain A bytes
  ended_chain holds (at, some, none) =
      let k : InHeader d bytes = subst (λ s. HoldsAt s d bytes) at holds in
      let empty : d.sum ≡ [] = sym (ap (λ (r : Seen). r.bytes) k.read) ∙ none in
      let within : length k.files ≤ chain_limit = subst (λ l. files_begun k.files (at_header l) ≤ chain_limit) empty k.goes.1 in (
        k.files,
        (
          record { some = omega (arith, some, k.counted); within = within; each = k.come.files },
          k.come.spelled ∙ ap (λ l. chain_bytes k.files ++ l) empty ∙ append-nil (chain_bytes k.files),
        ),
      )

  no_data : {P : Type 0} (files : List (FitFile A)) (g : Progress A) → HasCome files g bytes → AreChain A bytes → (g ≡ at_header [] → P) → P
  no_data files g come chain go = go (one_place files chain.0 g (at_header []) bytes come (chain_come bytes chain)).1

  pub chain_at : (s : Section) → HoldsAt s d bytes → d.stage.section ≡ s → refusal_of s ≡ None → AreChain A bytes → HasEnded d
  chain_at Header k at fresh chain =
      let same = one_place k.files chain.0 (at_header d.sum) (at_header []) bytes k.come (chain_come bytes chain) in
      let empty : d.sum ≡ [] = cc same.1 in
      (at, omega (arith, chain.1.0.some, k.counted, ap length same.0), ap (λ (r : Seen). r.bytes) k.read ∙ empty)
  chain_at Data k at fresh chain = no_data k.files (at_data k.header k.size k.records k.part) k.come chain (λ e. absurd cc)
  chain_at ClosingSum k at fresh chain = no_data k.files _ k.come chain (λ e. absurd cc)
  chain_at (Latched reason) k at fresh chain = absurd cc

  pub chain_ended : Holds d bytes → refusal_of d.stage.section ≡ None → AreChain A bytes → HasEnded d
  chain_ended holds fresh chain = chain_at d.stage.section holds refl fresh chain
