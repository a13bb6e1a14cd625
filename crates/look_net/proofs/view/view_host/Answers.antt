use Rattle.std.proofs.Common.{ap, sym, ◌∙◌, ◌++◌, ◌∷◌, [], Some}
use Rattle.command_words.specs.ViewWords.{ViewingOf}
use Rattle.edge_io.specs.Outside.{output_of, outside_given, outside_spent}
use Rattle.look_net.specs.Views.Views.{Watches}
use Rattle.look_net.proofs.Viewing.{links_are, one_more, watches_as, watches_host}
use Rattle.look_net.proofs.view.view_host.Goals as goal

pub returns : goal.returns
returns g c =
    let v = c.args.viewing.now in
    let link = outside_given g.D.Link.Link c.in-Some.link in
    let spent = outside_spent g.D.Link.Link c.close.result in
    let output = output_of g.K.Sink c.args.output.now in
    let printed = output_of g.K.Sink c.print_end.new.output in
    let watched = watches_host v c.watch-end.result c.watch-end.new.look c.print_end.result _ _ output printed c.watch-end.ensures.watches
    (λ w is. c.print_end.ensures v w c.watch-end.ensures.look is) in
    let first = links_are _ _ _ _ c.split-reader.ensures.left c.split-reader.ensures.told c.split-reader.ensures.reader_faults c.split-reader.ensures.writer_faults in
    let last = links_are _ _ _ _ (sym c.close.ensures.left) (sym c.close.ensures.told) (sym c.close.ensures.reader_faults) (sym c.close.ensures.writer_faults) in
    Watches (record {
      link = link;
      spent = spent;
      asked = c.done.ensures.asked ∙ c.dial.ensures.asked ∙ ap (λ (x : ViewingOf). Some x.port) c.viewing.view_is;
      given = one_more (outside_given g.D.Link.Link) _ _ c.in-Some.link (c.done.ensures.given ∙ c.in-Some.ensures.given);
      finished = one_more (outside_spent g.D.Link.Link) _ _ c.close.result (c.done.ensures.finished ∙ ap (λ xs. xs ++ c.close.result ∷ []) c.dial.ensures.finished);
      faults = c.done.ensures.faults ∙ c.in-Some.ensures.cause;
      watches = watches_as c.print_end.result v output printed first last watched;
    })
