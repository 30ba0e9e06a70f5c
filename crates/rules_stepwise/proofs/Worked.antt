-- The worked walks, computed.
use mathlib.Core.Path.{refl}
use Rattle.descriptor.specs.Bits.{set_bit, clear_bit}
use Rattle.vmsa.specs.Attributes.{attribute, device, normal}
use Rattle.vmsa.specs.Fields.{table_bits, with_table}
use Rattle.geometry.specs.Geometry.{page_size, stride_bits, unaligned, page_of, level_of, shift_of, span, block_at, first_left, cut, output_bits, output_limit}
use Rattle.refusals.specs.Tests.{tsz_bad, sizes_bad, root_bad, roots_bad, attribute_bad, attributes_bad, dirty_state_bad, size_bad, access_size_bad, last_byte, crossing}
use Rattle.checks.specs.Order.{start_check}
use Rattle.lookup.specs.Steps.{invalid, is_table, address_in, decoded, entry_at, upper, range_of, outside, context_of, first_table}
use Rattle.permission.specs.Permission.{attribute_of, writable, clean, user, uxn, pxn, may_read, may_write, may_fetch_with, may_fetch, permitted, misaligned, flag_fails, alignment_fails, permission_fails}
use Rattle.decision.specs.Decision.{flag_due, dirty_due, updated, cacheable, output_of, failing, passing, decision}
use Rattle.stepwise.specs.Stepwise.{start, left_at, reads_at, offered}
use Rattle.rules_stepwise.specs.Worked.{feed, WorkedSteps}

pub worked_steps : WorkedSteps
unfolding feed start left_at reads_at offered set_bit clear_bit page_size stride_bits unaligned page_of level_of shift_of span block_at first_left cut output_bits output_limit attribute device normal tsz_bad sizes_bad root_bad roots_bad attribute_bad attributes_bad dirty_state_bad size_bad access_size_bad last_byte crossing start_check invalid is_table address_in decoded entry_at upper range_of outside context_of first_table table_bits with_table attribute_of writable clean user uxn pxn may_read may_write may_fetch_with may_fetch permitted misaligned flag_fails alignment_fails permission_fails flag_due dirty_due updated cacheable output_of failing passing decision
worked_steps = record { p1 = refl; p2 = refl; p3 = refl; p4 = refl; p7 = refl; p11 = refl; wide = refl }
