-- Reading the selects of classes never comes to want of memory.
use Rattle.std.proofs.Common.{ℕ, zero, suc, ◌-◌, ◌&&◌, ◌||◌, nat_lt, nat_le}
use Rattle.std.specs.Int.{w8, w16}
use Rattle.som_model.specs.declared.limits.TheConstants.{MAX_SELECTS}
use Rattle.som_image_fields.specs.declared.method.Ranges.{Ranges}
use Rattle.som_image_fields.specs.Reading.{number_at, method_at}
use Rattle.som_wire.specs.Reading.{select_at, own_selects_at, class_from_at, class_selects_at, ascending_at, selects_at}
use Rattle.som_cmd_steps.proofs.FieldFaults.{then_reads, either_reads, number_reads, counted_reads, method_reads}
use Rattle.som_cmd_steps.proofs.BlockFaults.{Readable, two_reads}

select_reads : (ranges : Ranges) → Readable (select_at ranges)
unfolding select_at
select_reads ranges = two_reads (method_at ranges) (number_at w8) _ (method_reads ranges) (number_reads w8)

own_selects_reads : (ranges : Ranges) → Readable (own_selects_at ranges)
own_selects_reads ranges bytes place = counted_reads (number_at w16 bytes) 1 MAX_SELECTS (select_at ranges bytes) (number_reads w16 bytes) (select_reads ranges bytes) place

class_from_reads : (least classes : ℕ) → Readable (class_from_at least classes)
unfolding class_from_at
class_from_reads least classes bytes place = then_reads (number_at w16 bytes place) _ (number_reads w16 bytes place) (λ n. either_reads (nat_le least n.value && nat_lt n.value classes) _ _ tt tt)

class_selects_reads : (ranges : Ranges) (least : ℕ) → Readable (class_selects_at ranges least)
unfolding class_selects_at
class_selects_reads ranges least = two_reads (class_from_at least ranges.classes) (own_selects_at ranges) _ (class_from_reads least ranges.classes) (own_selects_reads ranges)

ascending_reads : (ranges : Ranges) (n least : ℕ) → Readable (ascending_at ranges n least)
unfolding ascending_at
ascending_reads ranges zero least bytes place = tt
ascending_reads ranges (suc n) least bytes place = then_reads (class_selects_at ranges least bytes place) _ (class_selects_reads ranges least bytes place) (λ first.
    then_reads (ascending_at ranges n (suc first.value.class) bytes first.next) _ (ascending_reads ranges n (suc first.value.class) bytes first.next) (λ others. tt))

pub selects_read : (ranges : Ranges) (first : ℕ) → Readable (selects_at ranges first)
unfolding selects_at
selects_read ranges first bytes place = then_reads (number_at w16 bytes place) _ (number_reads w16 bytes place) (λ count.
    either_reads (nat_lt count.value 1 || nat_lt (ranges.classes - first) count.value) _ (ascending_at ranges count.value first bytes count.next) tt (ascending_reads ranges count.value first bytes count.next))
