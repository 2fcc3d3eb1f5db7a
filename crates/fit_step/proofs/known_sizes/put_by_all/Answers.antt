use Rattle.fit_step.proofs.Common.{◌≡◌, ◌+◌, ◌*◌, sym, arith, rules, ◌∙◌, inl, inr, eqb_tells, get_or-set_other, slice_index, slice_set}
use Rattle.std.proofs.lemmas.Grind.{get_or-set_at}
use Rattle.fit_step.proofs.SkippedRecords.{all_away, type_heads, one_set, together_set}
use Rattle.fit_step.proofs.known_sizes.put_by_all.Goals as goal

pub loop-byte-init : goal.loop-byte-init
loop-byte-init c =
    let sizes = c.args.sizes.now in
    let local = c.args.local in
    let size = c.args.size in
    record {
      long = search rules;
      put = λ k.
          elim (eqb_tells k local) [
            | inl same ↦ inl (inl same.1, get_or-set_at sizes local k size 0 same.1 (omega (arith, c.told-sizes, c.requires.local)))
            | inr other ↦ inr (get_or-set_other sizes local k size 0 other.1, other.1, λ from below. omega (arith, from, below))
          ];
    }

pub loop-byte-preserved : goal.loop-byte-preserved
loop-byte-preserved c =
    let i = c.loop-byte.invariant in
    let sizes = c.loop-byte.sizes in
    let byte = c.loop-byte.byte in
    let size = c.args.size in
    record {
      long = search rules;
      put = λ k.
          elim (eqb_tells k byte) [
            | inl same ↦ inl (
              inr (c.if-local-lt4.true, omega (arith, same.1, c.loop-byte.auto.byte), omega (arith, same.1)),
              get_or-set_at sizes byte k size 0 same.1 (omega (arith, i.long, c.loop-byte-test.true, c.if-local-lt4.true)),
            )
            | inr other ↦
                let stays : slice_index (slice_set sizes byte size) k ≡ slice_index sizes k = get_or-set_other sizes byte k size 0 other.1 in
                elim (i.put k) [
                  | inl n ↦ inl (elim n.0 [ inl same ↦ inl same | inr m ↦ inr (m.0, m.1, omega (arith, m.2)) ], stays ∙ n.1)
                  | inr n ↦ inr (stays ∙ n.0, n.1, λ from below. n.2 from (omega (arith, below, other.1)))
                ]
          ];
    }

pub returns-after-loop-byte-clause-put : goal.returns-after-loop-byte-clause-put
returns-after-loop-byte-clause-put c = λ b low.
    let local = c.args.local in
    elim (c.loop-byte.invariant.put b) [
      | inl n ↦
          let bits = type_heads local b c.requires.local
          (elim n.0 [ inl same ↦ inl same | inr m ↦ inr (m.0, m.1, omega (arith, m.2, c.loop-byte.auto.byte-end, c.loop-byte-test.false)) ]) in
          inl (bits.clean, bits.kind, bits.type, n.1)
      | inr n ↦ inr (inl (n.0, all_away local b low n.1 (λ _ from below. n.2 from (omega (arith, below, c.loop-byte-test.false)))))
    ]

pub returns-after-loop-byte-clause-together : goal.returns-after-loop-byte-clause-together
returns-after-loop-byte-clause-together c = λ l few none k from below.
    let local = c.args.local in
    let low = c.requires.local in
    let put = c.loop-byte.invariant.put in
    let ends = c.loop-byte.auto.byte-end in
    let over = c.loop-byte-test.false in
    elim (put k) [
      | inl n ↦
          elim (put (128 + 32 * l)) [
            | inl m ↦ n.1 ∙ sym m.1 ∙ none
            | inr m ↦
                elim n.0 [
                  | inl same ↦ absurd (omega (arith, same, from, low))
                  | inr r ↦
                      absurd (m.2 (omega (arith, r.1, r.2, from, below, ends, over)) (omega (arith, r.1, r.2, from, below, ends, over)))
                ]
          ]
      | inr n ↦
          elim (put (128 + 32 * l)) [
            | inl m ↦
                elim m.0 [
                  | inl same ↦ absurd (omega (arith, same, low))
                  | inr r ↦
                      absurd (n.2 (omega (arith, r.1, r.2, from, below, ends, over)) (omega (arith, r.1, r.2, from, below, ends, over)))
                ]
            | inr m ↦ n.0 ∙ c.requires.together l few (sym m.0 ∙ none) k from below
          ]
    ]

pub returns-else-local-lt4 : goal.returns-else-local-lt4
returns-else-local-lt4 c =
    let sizes = c.args.sizes.now in
    let local = c.args.local in
    record {
      put = one_set sizes local c.args.size c.told-sizes c.requires.local c.requires.together (λ few. absurd (omega (arith, few, c.if-local-lt4.false)));
      together = together_set sizes local c.args.size c.requires.local c.requires.together;
    }
