mod Numbers
mod Fronts
mod EntriesRead
mod Layouts
mod Headers
mod WholeGrammar
