-- Words that pass the test of their length have the sizes that they say.
use Rattle.tables.specs.Tests.{sized-true}

pub ruleset sized_words = (sized-true)
