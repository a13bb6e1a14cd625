use Rattle.edge_io.proofs.reader.LineReader.find_line_feed.Goals as goal

pub returns : goal.returns
returns c = rw (← c.self.view_is, ← c.deref.ensures.value) c.find_byte.ensures
