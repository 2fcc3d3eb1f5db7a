use Rattle.fit_step.proofs.known_sizes.small_size.Goals as goal

pub size_to_skip-size-requires : goal.size_to_skip-size-requires
size_to_skip-size-requires g c = assumption
