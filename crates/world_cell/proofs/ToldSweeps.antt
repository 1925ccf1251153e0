-- What the clients of handles are told of changes in the master the events of their sessions alone.
use Rattle.std.proofs.Common.{◌≡◌, ℕ, List, Option, refl, ap, subst, sym}
use Rattle.std.specs.Prelude.{fold}
use Rattle.std.specs.Option.{option_and_then}
use Rattle.coherence.specs.Slice.{Leads}
use Rattle.rows_cell.specs.declared.tables.Rows.{Rows}
use Rattle.tags_cell.specs.declared.messages.outs.Out.{Out}
use Rattle.tags_cell.specs.declared.messages.outs.Reply.{Reply}
use Rattle.session_core.specs.declared.records.Session.{Session}
use Rattle.session_core.specs.Sessions.{session_of as session_in}
use Rattle.master_parts.specs.declared.notices.SessionEvent.{SessionEvent}
use Rattle.master_state.specs.Notices.{with_telling, with_tellings}
use Rattle.master_state.specs.State.{MasterState}
use Rattle.master_state.specs.Lookups.{kept_of}
use Rattle.over_core.proofs.ToldSessions.{reads_told, lease_told}
use Rattle.world_steps.specs.World.{WorldState}
use Rattle.world_cell.specs.Slices.{seen_of, heard_from}
use Rattle.world_cell.proofs.Slices.{AreSame, Goes, there, shown, here, same_parts}

pub told_kept : (s : MasterState) (tellings : List SessionEvent) (client : ℕ) → kept_of (with_tellings s tellings) client ≡ kept_of s client
told_kept s tellings client = reads_told (λ (found : Option (Session Reply)). option_and_then (λ session. session.kept) found) (λ event before. refl) tellings s.sessions client

module _ (c : ℕ) (x : List ℕ) (w : WorldState) (s : MasterState) (rows : Rows) (t : MasterState) (sent : List Out) (tellings : List SessionEvent) where
  -- a slice shows nothing of them
  told_same : AreSame (there c x w rows (with_tellings t tellings) sent) (there c x w rows t sent)
  told_same =
      let seen : seen_of (session_in (fold with_telling t.sessions tellings) c) ≡ seen_of (session_in t.sessions c) = reads_told seen_of (λ event before. refl) tellings t.sessions c in
      record {
        present = refl;
        session = refl;
        epoch = refl;
        lease = lease_told tellings t.sessions;
        recovering = refl;
        seen = seen;
        starts = refl;
        heard = ap (heard_from t.recovering) seen;
        right = refl;
        pending = refl;
        beats = refl;
        offers = refl;
        grants = refl;
      }

  pub told_goes : Goes c x w s rows t sent → Goes c x w s rows (with_tellings t tellings) sent
  told_goes led =
      (led.0, subst (λ z. Leads (shown c x w (here c x w s)) led.0 (shown c x w z)) (sym (same_parts (there c x w rows (with_tellings t tellings) sent) (there c x w rows t sent) told_same)) led.1)
