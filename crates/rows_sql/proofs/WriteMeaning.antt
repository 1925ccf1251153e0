-- What the statements of the edits mean.
use Rattle.std.proofs.Common.{◌≡◌, refl}
use Rattle.sqlite_tied.specs.Compute.{everything}
use Rattle.sqlite.specs.Listing.{understood}
use Rattle.sqlite.specs.Given.{IsPlain}
use Rattle.sqlite.proofs.Callers.{command_of}
use Rattle.rows_sql.specs.OurSchema.{the_schema}
use Rattle.rows_sql.specs.WriteTexts.{set_epoch_text, set_next_instance_text, set_ended_below_text, renew_node_text, add_node_text, set_lock_generation_text, remove_node_text, put_session_text, remove_session_text, put_lock_text, remove_lock_text}
use Rattle.rows_sql.specs.Carrying.{set_version_text, set_version_command}
use Rattle.rows_sql.specs.WriteCommands.{set_epoch_command, set_next_instance_command, set_ended_below_command, renew_node_command, add_node_command, set_lock_generation_command, remove_node_command, put_session_command, remove_session_command, put_lock_command, remove_lock_command}

pub set_epoch_is : command_of (understood the_schema set_epoch_text) ≡ set_epoch_command
unfolding understood everything
set_epoch_is = refl

pub set_epoch_plain : IsPlain (understood the_schema set_epoch_text)
unfolding understood everything
set_epoch_plain = (refl, refl)

pub set_next_instance_is : command_of (understood the_schema set_next_instance_text) ≡ set_next_instance_command
unfolding understood everything
set_next_instance_is = refl

pub set_next_instance_plain : IsPlain (understood the_schema set_next_instance_text)
unfolding understood everything
set_next_instance_plain = (refl, refl)

pub set_ended_below_is : command_of (understood the_schema set_ended_below_text) ≡ set_ended_below_command
unfolding understood everything
set_ended_below_is = refl

pub set_ended_below_plain : IsPlain (understood the_schema set_ended_below_text)
unfolding understood everything
set_ended_below_plain = (refl, refl)

pub renew_node_is : command_of (understood the_schema renew_node_text) ≡ renew_node_command
unfolding understood everything
renew_node_is = refl

pub renew_node_plain : IsPlain (understood the_schema renew_node_text)
unfolding understood everything
renew_node_plain = (refl, refl)

pub add_node_is : command_of (understood the_schema add_node_text) ≡ add_node_command
unfolding understood everything
add_node_is = refl

pub add_node_plain : IsPlain (understood the_schema add_node_text)
unfolding understood everything
add_node_plain = (refl, refl)

pub set_lock_generation_is : command_of (understood the_schema set_lock_generation_text) ≡ set_lock_generation_command
unfolding understood everything
set_lock_generation_is = refl

pub set_lock_generation_plain : IsPlain (understood the_schema set_lock_generation_text)
unfolding understood everything
set_lock_generation_plain = (refl, refl)

pub remove_node_is : command_of (understood the_schema remove_node_text) ≡ remove_node_command
unfolding understood everything
remove_node_is = refl

pub remove_node_plain : IsPlain (understood the_schema remove_node_text)
unfolding understood everything
remove_node_plain = (refl, refl)

pub put_session_is : command_of (understood the_schema put_session_text) ≡ put_session_command
unfolding understood everything
put_session_is = refl

pub put_session_plain : IsPlain (understood the_schema put_session_text)
unfolding understood everything
put_session_plain = (refl, refl)

pub remove_session_is : command_of (understood the_schema remove_session_text) ≡ remove_session_command
unfolding understood everything
remove_session_is = refl

pub remove_session_plain : IsPlain (understood the_schema remove_session_text)
unfolding understood everything
remove_session_plain = (refl, refl)

pub put_lock_is : command_of (understood the_schema put_lock_text) ≡ put_lock_command
unfolding understood everything
put_lock_is = refl

pub put_lock_plain : IsPlain (understood the_schema put_lock_text)
unfolding understood everything
put_lock_plain = (refl, refl)

pub remove_lock_is : command_of (understood the_schema remove_lock_text) ≡ remove_lock_command
unfolding understood everything
remove_lock_is = refl

pub remove_lock_plain : IsPlain (understood the_schema remove_lock_text)
unfolding understood everything
remove_lock_plain = (refl, refl)

pub set_version_is : command_of (understood the_schema set_version_text) ≡ set_version_command
unfolding understood everything
set_version_is = refl

pub set_version_plain : IsPlain (understood the_schema set_version_text)
unfolding understood everything
set_version_plain = (refl, refl)
