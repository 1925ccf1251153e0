-- To each client, and of each name, what a step is that a crash cuts after its commit: that step, the master goes down, and what it sent is lost.
use Rattle.std.proofs.Common.{◌≡◌, ℕ, Bool, true, false, cond, List, [], ◌∷◌, map, Option, Some, None, refl, sym, ap, ◌∙◌, subst, inr}
use Rattle.std.specs.Prelude.{◌==◌, fold}
use Rattle.std.specs.Option.{option_map}
use Rattle.coherence.specs.Slice as one
use Rattle.coherence.specs.Slice.{IsIn, Event, GoDown, Reorder, Reached}
use Rattle.rows_cell.specs.declared.tables.Rows.{Rows}
use Rattle.rows_cell.specs.Rows.{changed_rows}
use Rattle.tags_cell.specs.declared.messages.outs.Out.{Out}
use Rattle.tags_cell.specs.declared.messages.outs.Out.TheVariants as outs
use Rattle.master_state.specs.State.{MasterState}
use Rattle.master_state.specs.Lookups.{noted}
use Rattle.over_core.specs.SweepCase.{SweepCase, swept_by, swept_edits}
use Rattle.world_steps.specs.declared.mail.Message.TheVariants.{ToClient}
use Rattle.world_steps.specs.declared.members.WorldClient.{WorldClient}
use Rattle.world_steps.specs.Members.{at_up}
use Rattle.world_steps.specs.World.{WorldState, member_of}
use Rattle.world_cell.specs.Left.{behind_cut}
use Rattle.world_cell.specs.Slices.{Shown, slice, beats_of, offer_of, put_offer, offers_of, grants_of, client_of}
use Rattle.world_cell.proofs.GrantsSent.{grants_stay}
use Rattle.world_cell.proofs.Slices.{LeadsTo, reached_stays, beats_stay, offers_more, lookup_each}
use Rattle.world_cell.proofs.SliceTicks.{behind_up}
use Rattle.world_cell.proofs.SliceSweeps.{behind_sweep}
use Rattle.over_core.specs.declared.actions.Action.{Action}

-- ---- offers stay

in_one_more : {A : Type 0} (b : Bool) (a x : A) (xs : List A) → IsIn a xs → IsIn a (cond b (x ∷ xs) xs)
in_one_more true a x xs i = inr i
in_one_more false a x xs i = i

offer_stays : (c : ℕ) (x : List ℕ) (out : Out) (o : one.Offer) (offers : List one.Offer) → IsIn o offers → IsIn o (offer_of c x out offers)
offer_stays c x (outs.Started started) o offers i = in_one_more (c == started.client) o _ offers i
offer_stays c x (outs.Alive alive) o offers i = in_one_more (c == alive.client) o _ offers i
offer_stays c x (outs.Reply reply) o offers i = i
offer_stays c x (outs.Refused refused) o offers i = i

offers_stay : (c : ℕ) (x : List ℕ) (sent : List Out) (o : one.Offer) (offers : List one.Offer) → IsIn o offers → IsIn o (fold (put_offer c x) offers (map ToClient sent))
offers_stay c x [] o offers i = i
offers_stay c x (out ∷ sent) o offers i = offers_stay c x sent o (offer_of c x out offers) (offer_stays c x out o offers i)

-- ---- a sweep

module _ (c : ℕ) (x : List ℕ) (w : WorldState) (s : MasterState) (case : SweepCase (noted s w.clock)) (action : Action) where
  abbrev swept_rows : Rows
  swept_rows = changed_rows w.rows (swept_edits (noted s w.clock) case)

  -- what was sent before
  abbrev sent_before : Event Shown
  sent_before = Reorder (beats_of c w.messages) (offers_of c x w.messages) (grants_of c x swept_rows.secret w.messages)

  cut_sweep_leads : LeadsTo c x (behind_sweep w s case action) (behind_cut w swept_rows)
  cut_sweep_leads =
      let sent : List Out = (swept_by (noted s w.clock) case).1.outs in (
        GoDown ∷ sent_before ∷ [],
        record {
          allowed = record {
            first = refl;
            rest = record {
              first = record {
                same_beats = λ beat i. subst (IsIn beat) (sym (beats_stay c w.messages sent)) i;
                same_offers = λ offer i. subst (IsIn offer) (sym (offers_more c x w.messages sent)) (offers_stay c x sent offer (offers_of c x w.messages) i);
                same_grants = λ grant i. grants_stay c x swept_rows.secret grant w.messages (map ToClient sent) i;
              };
              rest = tt;
            };
          };
          leads_there = refl;
        },
      )

  pub reached_stays_at_cut_sweep : Reached (slice c x (behind_sweep w s case action)) → Reached (slice c x (behind_cut w (behind_sweep w s case action).rows))
  reached_stays_at_cut_sweep reached = reached_stays c x (behind_sweep w s case action) (behind_cut w swept_rows) cut_sweep_leads reached

-- ---- a master that comes up

-- which is not seen of a client
up_unseen : (x : List ℕ) (now : ℕ) (member : Option WorldClient) → client_of x (option_map (at_up now) member) ≡ client_of x member
up_unseen x now None = refl
up_unseen x now (Some member) = refl

module _ (c : ℕ) (x : List ℕ) (w : WorldState) (now : ℕ) where
  same_client : client_of x (member_of (behind_up w now) c) ≡ client_of x (member_of w c)
  same_client = ap (client_of x) (lookup_each c (λ number. at_up now) w.clients) ∙ up_unseen x now (member_of w c)

  cut_up_leads : LeadsTo c x (behind_up w now) (behind_cut w (behind_up w now).rows)
  cut_up_leads = (
    GoDown ∷ [],
    record { allowed = record { first = refl; rest = tt }; leads_there = ap (λ (client : one.Client Shown). record (slice c x (behind_cut w (behind_up w now).rows)) { client = client }) same_client },
  )

  pub reached_stays_at_cut_up : Reached (slice c x (behind_up w now)) → Reached (slice c x (behind_cut w (behind_up w now).rows))
  reached_stays_at_cut_up reached = reached_stays c x (behind_up w now) (behind_cut w (behind_up w now).rows) cut_up_leads reached
