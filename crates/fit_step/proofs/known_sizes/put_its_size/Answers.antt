use Rattle.fit_step.proofs.Common.{◌<◌, refl, subst, sym, bit}
use Rattle.fit_step.proofs.SkippedRecords.{sizes_after, low_local}
use Rattle.fit_step.proofs.known_sizes.put_its_size.Goals as goal

pub put_size-requires : goal.put_size-requires
put_size-requires g c =
    let (b, rest, begins, clean, kind, type) = c.in-Some.ensures in
    record { local = subst (λ n. n < 16) (sym type) (low_local (bit 7 b) b); together = c.requires.1 }

pub put_by_all-requires : goal.put_by_all-requires
put_by_all-requires g c =
    let (b, rest, begins, clean, kind, type) = c.in-Some.ensures in
    record { local = subst (λ n. n < 16) (sym type) (low_local (bit 7 b) b); together = c.requires.1 }

pub returns-then-bytes-lt128 : goal.returns-then-bytes-lt128
returns-then-bytes-lt128 g c =
    let e = c.args.env.now in
    sizes_after e e c.in-Some.local c.small_size-size.result c.args.sizes.now c.put_size.new.sizes c.requires c.put_size.ensures.put
    c.put_size.ensures.together c.small_size-size.ensures (λ _ _. refl)

pub returns : goal.returns
returns g c =
    let e = c.args.env.now in
    sizes_after e e c.in-Some.local c.small_size-size.result c.args.sizes.now c.put_by_all.new.sizes c.requires c.put_by_all.ensures.put
    c.put_by_all.ensures.together c.small_size-size.ensures (λ _ _. refl)
