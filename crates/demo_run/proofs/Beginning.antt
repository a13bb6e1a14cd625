-- The watchers of viewers who have just joined.
use Rattle.std.proofs.Common.{◌≡◌, ◌∙◌, ℕ, [], length, refl, ap, sym}
use Rattle.order_means.specs.FrameMarks.{first_reading, read_stream}
use Rattle.headline.specs.Headline.{confirmed_in}
use Rattle.demo_run.specs.Scene.{demo_size, demo_head, preset_of, joins}
use Rattle.demo_run.specs.Counts.{sent_to, kept}
use Rattle.demo_run.specs.declared.watcher.Watcher.{Watcher}
use Rattle.demo_run.specs.Asks.{IsViewer}
use Rattle.demo_run.specs.Watching.{IsNew}
use Rattle.demo_run.specs.Standing.{Watches}
use Rattle.demo_run.proofs.Scenes.{joins_confirm, joins_confirm_no_pointers, joins_send_nothing, joins_take_nothing, none_kept}

pub first_watches : (v : ℕ) (w : Watcher) → IsViewer v → IsNew (preset_of v).confirmed demo_size w → Watches joins v w
first_watches v w at h =
    let c = (preset_of v).confirmed in
    record {
      reading = first_reading c demo_size;
      read = ap (λ k. read_stream k demo_size (sent_to joins v)) (joins_confirm v at) ∙ ap (read_stream c demo_size) (joins_send_nothing v at);
      client = h.client;
      confirmed = h.confirmed_is ∙ sym (joins_confirm v at);
      pointers = joins_confirm_no_pointers v at;
      size = h.size_is;
      takes = h.takes ∙ (none_kept ∙ ap kept (sym (joins_take_nothing v at)));
      bytes = h.bytes ∙ (none_kept ∙ ap (λ bs. kept (length bs)) (sym (joins_send_nothing v at)));
    }
