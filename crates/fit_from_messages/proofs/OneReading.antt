-- Bytes are read as blocks in one way.
use Rattle.std.proofs.Common.{◌≡◌, ◌∙◌, ◌⊎◌, inl, inr, ℕ, ◌<◌, List, [], ◌∷◌, ◌++◌, length, refl, sym, ap, subst, arith, append_assoc}
use Rattle.std.proofs.Common.{length-append}
use Rattle.std.proofs.lemmas.List.{take-append-le}
use Rattle.std.specs.Global.{Global}
use Rattle.std.specs.Prelude.{Option, Some, None}
use Rattle.fit_base.proofs.Bytes.{front_back}
use Rattle.fit_base.specs.Numbers.{number}
use Rattle.fit_base.specs.declared.number.Order.TheVariants.{Little}
use Rattle.fit_record.specs.declared.file.FitFile.{FitFile}
use Rattle.fit_from_messages.specs.Parts.{number_read}
use Rattle.fit_from_messages.specs.SaysChain.{CannotGoOn, IsBlock, IsRefusedBlock, Said, Say, SaysChain, after, joined_blocks, nothing_said, reason}
use Rattle.fit_from_messages.specs.declared.fault.BlockReason.{BlockReason}
use Rattle.fit_from_messages.specs.declared.fault.BlockReason.TheVariants.{Cut}

-- ---- one block

-- a block says its length, whatever comes after it
own_length : (b x : List ℕ) → IsBlock b → number_read 4 0 (b ++ x) ≡ length b
own_length b x is = ap (number Little) (take-append-le 4 b x (omega (arith, is.front))) ∙ is.own_length

-- bytes begin with one block
pub one_block : (b c x y : List ℕ) → IsBlock b → IsBlock c → b ++ x ≡ c ++ y → (b ≡ c) × (x ≡ y)
one_block b c x y first second e = front_back b c x y (sym (own_length b x first) ∙ ap (number_read 4 0) e ∙ own_length c y second) e

-- nothing is no block
pub no_block : (b x : List ℕ) → IsBlock b → [] ≡ b ++ x → ⊥
no_block b x is e = omega (arith, is.front, ap length e, length-append b x)

-- ---- blocks one after another

one_saying : (s t u : Said) (bs cs : List (List ℕ)) → Say s bs t → Say s cs u → joined_blocks bs ≡ joined_blocks cs → (bs ≡ cs) × (t ≡ u)
one_saying s t u [] [] p q e = (refl, sym p ∙ q)
one_saying s t u [] (c ∷ cs) p q e = absurd (no_block c (joined_blocks cs) q.0 e)
one_saying s t u (b ∷ bs) [] p q e = absurd (no_block b (joined_blocks bs) p.0 (sym e))
one_saying s t u (b ∷ bs) (c ∷ cs) p q e =
    let one = one_block b c (joined_blocks bs) (joined_blocks cs) p.0 q.0 e in
    let rest : Say (after s b) cs u = subst (λ x. Say (after s x) cs u) (sym one.0) q.2 in
    let others = one_saying (after s b) t u bs cs p.2 rest one.1 in
    ((λ i. one.0 i ∷ others.0 i), others.1)

-- bytes are one list of blocks
pub same_blocks : (bytes : List ℕ) (f g : List (FitFile Global)) (x : SaysChain bytes f) (y : SaysChain bytes g) → (x.blocks ≡ y.blocks) × (f ≡ g)
same_blocks bytes f g x y =
    let one = one_saying nothing_said (record { files = f; current = None }) (record { files = g; current = None }) x.blocks y.blocks
    x.say y.say (sym x.are_joined ∙ y.are_joined) in
    (one.0, ap (λ (s : Said). s.files) one.1)

pub says_one : (bytes : List ℕ) (f g : List (FitFile Global)) → SaysChain bytes f → SaysChain bytes g → f ≡ g
says_one bytes f g x y = (same_blocks bytes f g x y).1

-- ---- blocks that can't stand where they are

-- no block comes there, where the blocks may not end
pub record Lacks (said : Said) (rest : List ℕ) : Type 0 where
  pub no_block : (block more : List ℕ) → rest ≡ block ++ more → IsBlock block → ⊥
  pub no_end : rest ≡ [] → said.current ≡ None → 0 < length said.files → ⊥

-- one comes that can't stand there
pub record Refuses (said : Said) (rest : List ℕ) (why : BlockReason) : Type 0 where
  pub block : List ℕ
  pub more : List ℕ
  pub begins : rest ≡ block ++ more
  pub is : IsBlock block
  pub refused : reason said block ≡ Some why

refuses : (said : Said) (rest : List ℕ) (why : BlockReason)
    → (block : List ℕ) × (more : List ℕ) × (rest ≡ block ++ more) × IsBlock block × (reason said block ≡ Some why) → Refuses said rest why
refuses said rest why (block, more, begins, is, refused) = record { block = block; more = more; begins = begins; is = is; refused = refused }

pub cannot_cases : (said : Said) (rest : List ℕ) (why : BlockReason) → CannotGoOn said rest why → ((why ≡ Cut) × Lacks said rest) ⊎ Refuses said rest why
cannot_cases said rest Cut wrong = inl (refl, record { no_block = wrong.0; no_end = wrong.1 })
cannot_cases said rest why wrong = inr (refuses said rest why wrong)

none_is_some : (why : BlockReason) (o : Option BlockReason) → o ≡ None → o ≡ Some why → ⊥
none_is_some why o none some = cc (none, some)

-- a block that can stand there comes
stands : (said : Said) (b more rest : List ℕ) (why : BlockReason) → IsBlock b → reason said b ≡ None → rest ≡ b ++ more → CannotGoOn said rest why → ⊥
stands said b more rest why is good e wrong = elim (cannot_cases said rest why wrong) [
  | inl cut ↦ cut.1.no_block b more e is
  | inr bad ↦ none_is_some why (reason said b) good
      (ap (reason said) (one_block b bad.block more bad.more is bad.is (sym e ∙ bad.begins)).0 ∙ bad.refused)
]

-- the blocks may end there
ends : (said : Said) (why : BlockReason) → said.current ≡ None → 0 < length said.files → CannotGoOn said [] why → ⊥
ends said why whole some wrong = elim (cannot_cases said [] why wrong) [
  | inl cut ↦ cut.1.no_end refl whole some
  | inr bad ↦ no_block bad.block bad.more bad.is bad.begins
]

goes_on : (s t u : Said) (bs cs : List (List ℕ)) (rest : List ℕ) (why : BlockReason) → Say s bs t → Say s cs u → joined_blocks bs ≡ joined_blocks cs ++ rest
    → t.current ≡ None → 0 < length t.files → CannotGoOn u rest why → ⊥
goes_on s t u [] [] rest why p q e whole some wrong =
    ends t why whole some (subst (λ r. CannotGoOn t r why) (sym e) (subst (λ x. CannotGoOn x rest why) (sym q ∙ p) wrong))
goes_on s t u [] (c ∷ cs) rest why p q e whole some wrong = no_block c (joined_blocks cs ++ rest) q.0 (e ∙ append_assoc c (joined_blocks cs) rest)
goes_on s t u (b ∷ bs) [] rest why p q e whole some wrong =
    stands s b (joined_blocks bs) rest why p.0 p.1 (sym e) (subst (λ x. CannotGoOn x rest why) (sym q) wrong)
goes_on s t u (b ∷ bs) (c ∷ cs) rest why p q e whole some wrong =
    let one = one_block b c (joined_blocks bs) (joined_blocks cs ++ rest) p.0 q.0 (e ∙ append_assoc c (joined_blocks cs) rest) in
    goes_on (after s b) t u bs cs rest why p.2 (subst (λ x. Say (after s x) cs u) (sym one.0) q.2) one.1 whole some wrong

-- blocks that say a chain are not refused
pub says_or_refused : (bytes : List ℕ) (files : List (FitFile Global)) (count place : ℕ) (why : BlockReason) → SaysChain bytes files
    → IsRefusedBlock bytes count place why → ⊥
says_or_refused bytes files count place why x r =
    goes_on nothing_said (record { files = files; current = None }) r.said x.blocks r.blocks r.rest why x.say r.say (sym x.are_joined ∙ r.are_joined)
    refl x.some r.wrong

-- ---- one refusal

one_reason : (said : Said) (rest : List ℕ) (v w : BlockReason) → CannotGoOn said rest v → CannotGoOn said rest w → v ≡ w
one_reason said rest v w p q = elim (cannot_cases said rest v p) [
  | inl cut ↦ elim (cannot_cases said rest w q) [
    | inl other ↦ cut.0 ∙ sym other.0
    | inr bad ↦ absurd (cut.1.no_block bad.block bad.more bad.begins bad.is)
  ]
  | inr bad ↦ elim (cannot_cases said rest w q) [
    | inl cut ↦ absurd (cut.1.no_block bad.block bad.more bad.begins bad.is)
    | inr other ↦
        some_same v w (sym bad.refused
        ∙ ap (reason said) (one_block bad.block other.block bad.more other.more bad.is other.is (sym bad.begins ∙ other.begins)).0 ∙ other.refused)
  ]
] where
  some_same : (a b : BlockReason) → Some a ≡ Some b → a ≡ b
  some_same a b e = cc e

one_stop : (s t u : Said) (bs cs : List (List ℕ)) (x y : List ℕ) (v w : BlockReason) → Say s bs t → Say s cs u → joined_blocks bs ++ x ≡ joined_blocks cs ++ y
    → CannotGoOn t x v → CannotGoOn u y w → (bs ≡ cs) × (v ≡ w)
one_stop s t u [] [] x y v w p q e first second =
    (refl, one_reason t x v w first (subst (λ r. CannotGoOn t r w) (sym e) (subst (λ z. CannotGoOn z y w) (sym q ∙ p) second)))
one_stop s t u [] (c ∷ cs) x y v w p q e first second =
    absurd (stands s c (joined_blocks cs ++ y) x v q.0 q.1 (e ∙ append_assoc c (joined_blocks cs) y) (subst (λ z. CannotGoOn z x v) (sym p) first))
one_stop s t u (b ∷ bs) [] x y v w p q e first second =
    absurd (stands s b (joined_blocks bs ++ x) y w p.0 p.1 (sym e ∙ append_assoc b (joined_blocks bs) x) (subst (λ z. CannotGoOn z y w) (sym q) second))
one_stop s t u (b ∷ bs) (c ∷ cs) x y v w p q e first second =
    let parted = sym (append_assoc b (joined_blocks bs) x) ∙ e ∙ append_assoc c (joined_blocks cs) y in
    let one = one_block b c (joined_blocks bs ++ x) (joined_blocks cs ++ y) p.0 q.0 parted in
    let others = one_stop (after s b) t u bs cs x y v w p.2 (subst (λ z. Say (after s z) cs u) (sym one.0) q.2) one.1 first second in
    ((λ i. one.0 i ∷ others.0 i), others.1)

-- bytes are refused for one block and one reason
pub one_refusal : (bytes : List ℕ) (m n i j : ℕ) (v w : BlockReason) → IsRefusedBlock bytes m i v → IsRefusedBlock bytes n j w
    → (m ≡ n) × (i ≡ j) × (v ≡ w)
one_refusal bytes m n i j v w p q =
    let one = one_stop nothing_said p.said q.said p.blocks q.blocks p.rest q.rest v w p.say q.say (sym p.are_joined ∙ q.are_joined) p.wrong q.wrong in
    (p.counted ∙ ap length one.0 ∙ sym q.counted, p.at ∙ ap (λ bs. length (joined_blocks bs)) one.0 ∙ sym q.at, one.1)
