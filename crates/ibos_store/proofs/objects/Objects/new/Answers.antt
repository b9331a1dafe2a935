use Rattle.std.proofs.Common.{◌∙◌, sym, ap}
use Rattle.ibos_kinds.specs.Objects.{is_over, stored_bytes}
use Rattle.ibos_store.specs.Stores.{key_objects}
use Rattle.ibos_store.proofs.Sums.{none_within}
use Rattle.ibos_store.proofs.objects.Objects.new.Goals as goal

pub invariant_of-result : goal.invariant_of-result
invariant_of-result c = (ap (λ es. stored_bytes (key_objects es)) (sym c.with_hasher.ensures.empty), ap (λ es. is_over (key_objects es)) c.with_hasher.ensures.empty ∙ none_within)
