-- A link that was dialled, from the call to its end.
use Rattle.std.proofs.Common.{◌≡◌, ◌∙◌, ℕ, List, [], ◌∷◌, ◌++◌, map, ap, subst}
use Rattle.std.proofs.lemmas.List.{map-append}
use Rattle.std.specs.declared.option.Option.{Option}
use Rattle.std.specs.declared.option.Option.TheVariants.{Some}
use Rattle.edge_io.specs.Outside.{Output, Outside, outside}
use Rattle.command_words.specs.ViewWords.{ViewingOf}
use Rattle.viewer_rules.specs.ViewerHandshake.{Watching}
use Rattle.look_net.specs.Looks.{LookOf}
use Rattle.look_net.specs.declared.end.End.{End}
use Rattle.look_net.specs.Views.{Ends, WatchesHost}
use Rattle.look_net.specs.HostTurns.{IsEnd, watch_end, WatchesAll}

-- links by their parts
pub links_are : (left told : Option (List ℕ)) (reads writes : ℕ) {left-2 told-2 : Option (List ℕ)} {reads-2 writes-2 : ℕ}
    → left ≡ left-2 → told ≡ told-2 → reads ≡ reads-2 → writes ≡ writes-2
    → outside (record { left = left; faults = reads }) (record { told = told; faults = writes }) ≡ outside (record { left = left-2; faults = reads-2 }) (record { told = told-2; faults = writes-2 })
links_are left told reads writes l t r w =
    λ i. outside (record { left = l i; faults = r i }) (record { told = t i; faults = w i })

-- one link more of a list
pub one_more : {X Y : Type 0} (f : X → Y) (old new : List X) (x : X) → new ≡ old ++ x ∷ [] → map f new ≡ map f old ++ f x ∷ []
one_more f old new x is = ap (map f) is ∙ map-append f old (x ∷ [])

-- a link is seen as another one of the same parts
pub watches_as : (status : ℕ) (v : ViewingOf) (output printed : Output) {before before-2 now now-2 : Outside} → before ≡ before-2 → now ≡ now-2
    → WatchesHost status v before now output printed → WatchesHost status v before-2 now-2 output printed
watches_as status v output printed {before} {before-2} {now} {now-2} b n w = subst (λ (x : Outside). WatchesHost status v x now-2 output printed) b
    (subst (λ (x : Outside). WatchesHost status v before x output printed) n w)

-- a host was watched to an end, which was printed
pub watches_host : (v : ViewingOf) (e : End) (look : LookOf) (status : ℕ) (before now : Outside) (output printed : Output) → WatchesAll (Some e) v look before now
    → ((w : Watching) → IsEnd e v w look → Ends (watch_end e) status v w output printed) → WatchesHost status v before now output printed
watches_host v e look status before now output printed a ends = record {
  read = a.read;
  reads = a.reads;
  end = watch_end e;
  tells = a.turns.tells;
  ends = ends _ a.turns.is;
}
