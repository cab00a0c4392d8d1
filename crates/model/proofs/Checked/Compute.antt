-- To compute with the definitions, name `computing` on an `unfolding` line. Written by tools/gen_compute.py.
use mathlib.Core.List.{flat_map}
use Rattle.model.specs.Outcome.{◌>>=◌, ◌>>◌, require, ok_or}
use Rattle.model.specs.Pool.{allocate, free}
use Rattle.model.specs.Locals.{insert_local, free_invalid_capas, has_capacity, capa_at, insert_capa, remove_capa, empty_capa}
use Rattle.model.specs.Updates.{push, push_permission, pop}
use Rattle.model.specs.Tracker.{split_at, cut_before, cut_after, fill_gap, add_to, add_region, keep_or_drop, remove_from, remove_region, merge_into, coalesce, merged, gain, lose}
use Rattle.model.specs.Tree.{insert_child, remove_child}
use Rattle.model.specs.Regions.{put_walk, activate, deactivate, new_region, free_region, send_ranges, send_region, apply_options, give_back, leave_parent, revoke_leaf, revoke_region}
use Rattle.model.specs.Closing.{closes_root, closes_running, revoke_live, revoke_slot, revoke_slots, free_domain, close_domain}
use Rattle.model.specs.Calls.{live_domain, caller_with, live_region, region_held, room_for_region, new_domain, open_domain, open_channel, set_core_map, set_interface, freeze_interface, create_root_region, add_child, alias_region, exchange_rights, carve_region, check_options, send_capa, send, revoke_unless_root, close_managed, revoke_capa, revoke, create_revoke_capa}
use Rattle.model.specs.Readings.{permissions, get_refcount, core_map, holders}
use Rattle.model.specs.Layout.{words}
use Rattle.model.specs.Making.{make_tables, make_in}
use Rattle.model.specs.Perform.{perform_step, read_tables, perform, step, run}

unfoldable pub computing : Unit {0}
unfolding flat_map ◌>>=◌ ◌>>◌ require ok_or allocate free insert_local free_invalid_capas has_capacity capa_at insert_capa remove_capa empty_capa push push_permission pop split_at cut_before cut_after fill_gap add_to add_region keep_or_drop remove_from remove_region merge_into coalesce merged gain lose insert_child remove_child put_walk activate deactivate new_region free_region send_ranges send_region apply_options give_back leave_parent revoke_leaf revoke_region closes_root closes_running revoke_live revoke_slot revoke_slots free_domain close_domain live_domain caller_with live_region region_held room_for_region new_domain open_domain open_channel set_core_map set_interface freeze_interface create_root_region add_child alias_region exchange_rights carve_region check_options send_capa send revoke_unless_root close_managed revoke_capa revoke create_revoke_capa permissions get_refcount core_map holders words make_tables make_in perform_step read_tables perform step run
computing = tt
